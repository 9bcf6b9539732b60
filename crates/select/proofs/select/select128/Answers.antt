-- The first word is searched where it has k of the wanted bits, else the second for those that it lacks. Assumes nothing.
use native.Mathlib.Omega.{arith}
use mathlib.Core.Path.{sym, ◌∙◌}
use Rattle.model.specs.Marks.{further}
use Rattle.model.specs.Word.{bits}
use Rattle.model.proofs.Counting.{select_below}
use Rattle.model.proofs.Words.{bits_length}
use Rattle.select.proofs.Widths.{in_low, in_high}
use Rattle.select.proofs.select.select128.Goals as goal

pub returns-then-k-in_low : goal.returns-then-k-in_low
returns-then-k-in_low c =
    let s = c.args in
    c.select_word.ensures ∙ in_low 64 s.bit s.k s.low s.high c.ones-in_low.ensures c.chosen.ensures.same c.ranges.low.fits c.if-k-in_low.true

pub returns-in_err-pos : goal.returns-in_err-pos
unfolding further
returns-in_err-pos c =
    let s = c.args in
    let high = sym c.select_word-2.ensures ∙ c.in_err-pos.was in
    let first = c.ones-in_low.ensures in
    c.from_residual.ensures ∙ in_high 64 s.bit s.k s.low s.high first c.chosen.ensures.same c.ranges.low.fits c.if-k-in_low.false high

pub overflow_add-result : goal.overflow_add-result
overflow_add-result c =
    let below = select_below c.args.bit _ (bits 64 c.args.high) _ (sym c.select_word-2.ensures ∙ c.in_ok-pos.was) in
    omega (arith, below, bits_length 64 c.args.high)

pub returns : goal.returns
unfolding further
returns c =
    let s = c.args in
    let high = sym c.select_word-2.ensures ∙ c.in_ok-pos.was in
    in_high 64 s.bit s.k s.low s.high c.ones-in_low.ensures c.chosen.ensures.same c.ranges.low.fits c.if-k-in_low.false high
