-- The count of leaves is its definition, at zero and past it. Assumes nothing.
use Prim.Native.Nat.{ℕ, zero, suc, ◌+◌, ◌/◌, ◌%◌, max, min}
use native.Mathlib.Omega.{arith}
use mathlib.Core.Path.{◌≡◌, ap, ◌∙◌}
use Rattle.model.specs.Build.{leaf_count}
use Rattle.build.proofs.building.leaf_count.Goals as goal

counted : (n : ℕ) → max (n / 64 + min 1 (n % 64)) 1 ≡ leaf_count n
unfolding leaf_count
counted zero = omega arith
counted (suc n) = omega arith

pub returns : goal.returns
returns c = c.max.ensures ∙ ap (λ (k : ℕ). max k 1) c.div_ceil.ensures ∙ counted c.args.length
