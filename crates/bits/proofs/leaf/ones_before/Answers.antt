-- The low word is counted, and then the high one past it. Assumes nothing.
use native.Mathlib.Omega.{arith}
use mathlib.Core.Path.{ap₂, ◌∙◌}
use Prim.Native.Nat.{ℕ, ◌+◌, ◌-◌}
use Rattle.bits.specs.Leaf.{bits_of}
use Rattle.bits.proofs.TwoWords.{ones_low, ones_both, ones_most}
use Rattle.bits.proofs.leaf.ones_before.Goals as goal

pub returns-then-end-lt-WORD_BITS : goal.returns-then-end-lt-WORD_BITS
unfolding bits_of
returns-then-end-lt-WORD_BITS c = let s = c.args in c.ones_below-low.ensures ∙ ones_low s.leaf s.end (omega arith)

pub overflow_add-result : goal.overflow_add-result
overflow_add-result c =
    let s = c.args in
    omega (arith, ones_most s.end s.leaf.low, ones_most (s.end - 64) s.leaf.high)

pub returns : goal.returns
unfolding bits_of
returns c =
    let s = c.args in
    ap₂ (λ (x y : ℕ). x + y) c.ones_below-low.ensures c.ones_below.ensures ∙ ones_both s.leaf s.end c.if-end-lt-WORD_BITS.false
