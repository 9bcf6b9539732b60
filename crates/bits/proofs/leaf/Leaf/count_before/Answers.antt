-- Zeros are what the ones leave of the place. Assumes nothing.
use Prim.Native.Nat.{ℕ, ◌+◌, min}
use native.Mathlib.Omega.{arith}
use mathlib.Core.Bool.{true, false}
use mathlib.Core.Path.{◌≡◌}
use Rattle.model.specs.Marks.{rank}
use Rattle.bits.specs.Leaf.{bits_of}
use Rattle.bits.specs.declared.leaf.Leaf.{Leaf}
use Rattle.bits.proofs.TwoWords.{rank_both}
use Rattle.bits.proofs.leaf.Leaf.count_before.Goals as goal

-- the ones that are counted, and the zeros, make up the place
both : (l : Leaf) (end n : ℕ) → n ≡ rank true end (bits_of l) → n + rank false end (bits_of l) ≡ min end 128
unfolding bits_of
both l end n e = rw e (rank_both l end)

pub overflow_sub-result : goal.overflow_sub-result
overflow_sub-result c = omega (arith, both _ _ _ c.ones_before-ones.ensures)

pub returns-then-end-lt-BLOCK_BITS : goal.returns-then-end-lt-BLOCK_BITS
returns-then-end-lt-BLOCK_BITS c = rw c.if-bit.false (omega (arith, both _ _ _ c.ones_before-ones.ensures))

pub overflow_sub-result-2 : goal.overflow_sub-result-2
overflow_sub-result-2 c = omega (arith, both _ _ _ c.ones_before-ones.ensures)

pub returns : goal.returns
returns c = rw c.if-bit.false (omega (arith, both _ _ _ c.ones_before-ones.ensures))
