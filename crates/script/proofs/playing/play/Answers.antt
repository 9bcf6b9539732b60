-- Nothing is left; the input is too long; or its next line is played.
use native.Mathlib.Omega.{arith}
use borrow.Author.Rules.{rules}
use mathlib.Core.List.{[]}
use mathlib.Core.Path.{ap}
use lib.ListN.{length, length-drop}
use Rattle.script.proofs.Bounds.{line_length, line_fits}
use Rattle.script.proofs.Ends.{ended_line, long_line, next_line, rest_is}
use Rattle.script.proofs.playing.play.Goals as goal

pub returns-then-input-at : goal.returns-then-input-at
returns-then-input-at c = record {
  played = ended_line _ _ _ _ _ c.if-input-at.true;
  fits = omega arith;
  goes_on = λ h. absurd (omega (arith, c.if-input-at.true));
}

pub returns-then-input-gt-MOST_INPUT : goal.returns-then-input-gt-MOST_INPUT
returns-then-input-gt-MOST_INPUT c =
    record {
      played =
          long_line _ _ _ _ _ _ _ (omega (arith, c.if-input-at.false)) (omega (arith, c.if-input-gt-MOST_INPUT.true))
          (c.tell.ensures.end, c.tell.ensures.written);
      fits = omega (arith, c.tell.ensures.end, line_length 12 0 []);
      goes_on = λ h. h;
    }

pub returns : goal.returns
returns c =
    let a = c.args in
    let first = c.first_line-taken.ensures in
    let left = rest_is a.input.now a.at in
    let some = first.goes_on (omega (arith, c.if-input-at.false, length-drop a.at a.input.now, ap length left)) in
    let t = next_line a.input.now a.at _ c.first_line-taken.result.1 c.first_line-taken.result.0.now a.pool.now a.nodes a.out.now
    c.play_line-end.new.nodes c.play_line-end.result c.play_line-end.new.pool c.play_line-end.new.out
    (omega (arith, c.if-input-at.false)) (omega (arith, c.if-input-gt-MOST_INPUT.false)) left some first.within.1 first.line first.rest
    (λ s h. c.play_line-end.ensures s h) in
    record {
      played = t;
      fits = line_fits _ _ _ _ _ _ _ _ (search rules) t;
      goes_on = λ h. omega (arith, some);
    }
