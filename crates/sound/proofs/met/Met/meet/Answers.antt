-- The bit is set where it was clear and there is room. Assumes nothing.
use Prim.Native.Nat.{◌%◌}
use native.Mathlib.Omega.{arith}
use mathlib.Core.Path.{refl}
use Rattle.bits.proofs.Packed.{one_shl}
use Rattle.sound.proofs.Bitmap.{meet_yes, meet_no, meet_out}
use Rattle.sound.proofs.met.Met.meet.Goals as goal

pub returns-in_default : goal.returns-in_default
returns-in_default c = meet_out c.args.self.now _ c.args.n c.in_default.ensures.lookup.3

pub returns-then-word-bit-ne0 : goal.returns-then-word-bit-ne0
returns-then-word-bit-ne0 c =
    let h = c.in-Some.ensures.lookup.3 in
    meet_no c.args.self.now _ c.args.n h.0 (rw (h.1 0) at c.if-word-bit-ne0.true)

pub returns : goal.returns
returns c =
    let h = c.in-Some.ensures.lookup.3 in
    meet_yes c.args.self.now _ c.args.n h.0 (omega arith) _ (one_shl (c.args.n % 64) (omega arith)) (rw (h.1 0) at c.if-word-bit-ne0.false)
    (rw (h.1 0) refl)
