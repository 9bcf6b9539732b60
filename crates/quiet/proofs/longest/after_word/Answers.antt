-- What is left of the word goes by after what has gone by, as the whole word does from the start. Assumes nothing.
use native.Mathlib.Omega.{arith}
use mathlib.Core.Path.{◌∙◌}
use lib.Pow.{shr_le}
use Rattle.quiet.specs.Watching.{later}
use Rattle.quiet.proofs.Passed.{above, gap, run, run_some, strike_passed, word_quiet, word_struck, word_strikes}
use Rattle.quiet.proofs.longest.after_word.Goals as goal

pub returns-then-left-quiet : goal.returns-then-left-quiet
returns-then-left-quiet c =
    let l = c.loop-left in
    c.after_quiet.ensures ∙ word_quiet l.now l.left l.rest l.invariant.0 c.if-left-quiet.true ∙ l.invariant.3

pub returns-then-left-run : goal.returns-then-left-run
returns-then-left-run c =
    let l = c.loop-left in
    let more = c.if-left-quiet.false in
    c.after_strike-now.ensures ∙ word_struck l.now l.left l.rest l.invariant.0 l.invariant.2 more c.if-left-run.true ∙ l.invariant.3

pub loop-left-smaller : goal.loop-left-smaller
loop-left-smaller c =
    let l = c.loop-left in
    omega (arith, run_some l.now l.left l.rest l.invariant.0 l.invariant.2 c.if-left-quiet.false)

pub loop-left-preserved : goal.loop-left-preserved
loop-left-preserved c =
    let l = c.loop-left in
    let e = c.after_strike-now.ensures in (
      omega arith,
      rw (e, strike_passed (later (gap l.rest) l.now)) (omega arith),
      omega (arith, shr_le l.rest (gap l.rest), shr_le (above l.rest) (run l.rest)),
      rw e (word_strikes l.now l.left l.rest l.invariant.0 l.invariant.2 c.if-left-quiet.false c.if-left-run.false ∙ l.invariant.3),
    )
