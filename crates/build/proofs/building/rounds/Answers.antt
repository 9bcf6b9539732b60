-- Each round leaves half the trees, and the rounds to come still make the same tree. Assumes nothing.
use Prim.Native.Nat.{◌-◌, ◌*◌}
use native.Mathlib.Omega.{arith}
use mathlib.Core.Path.{◌≡◌}
use Rattle.build.proofs.Rounds.{last_round, round_over}
use Rattle.build.proofs.building.rounds.Goals as goal

pub loop-row-preserved : goal.loop-row-preserved
loop-row-preserved c =
    let s = c.loop-row in
    let r = c.round-row in
    let size = r.ensures.kept in
    let half = r.ensures.half in (
      omega arith,
      omega arith,
      omega arith,
      λ ts p. round_over _ (omega arith) r.ensures (omega arith) (s.invariant.3 ts p),
    )

pub returns : goal.returns
returns c =
    let s = c.loop-row in
    let a = c.args in
    let last : 2 * a.leaves.count - 1 ≡ s.next = omega arith in
    record { kept = s.invariant.2; done = λ ts p. rw last (last_round (s.invariant.3 ts p) (omega arith)) }
