-- The public contract determines its result: two results that it allows for the same arguments are equal. The law speaks of the contract as the
-- check reads it off the source; `Post` takes the lifetimes, the arguments, the result and what the call leaves behind references.
use Prim.Native.Nat.{ℕ}
use mathlib.Core.Path.{◌≡◌, refl, sym}
use mathlib.Core.Bool.{Bool, true, false}
use mathlib.Core.List.{List}
use Rattle.model.specs.Contract.{Pinned}
use Rattle.pool.specs.declared.chain.Chain.{Chain}
use Rattle.sound.specs.Judged.{Judged}
use Rattle.sound.proofs.judge.sound.Reads as sound

judged_one : {w : List ℕ} {root total : ℕ} {chain : Chain} (r r' : Bool) → Judged w root total chain r → Judged w root total chain r' → r ≡ r'
judged_one true true p q = refl
judged_one true false p q = let h = p.yes refl in sym (q.no h.0 h.1)
judged_one false true p q = let h = q.yes refl in p.no h.0 h.1
judged_one false false p q = refl

pub sound_pinned : Pinned sound.Post
sound_pinned κs a r r' w w' p q = judged_one r r' p q
