-- The words are no pool's, or they are judged. Assumes nothing.
use mathlib.Core.Path.{ap, ◌∙◌}
use Rattle.std.proofs.lemmas.Result.{err_from_is_err_and}
use Rattle.window.specs.declared.trailer.Trailer.{Trailer}
use Rattle.window.proofs.OneState.{stands_length}
use Rattle.window.proofs.Verdicts.{no_checked, damaged_checked, stands_checked}
use Rattle.window.proofs.calls.check.Goals as goal

pub returns-in_err-n : goal.returns-in_err-n
returns-in_err-n c =
    let e = err_from_is_err_and c.from_residual.result c.from_residual.ensures.1 in
    rw (e.1, e.2, c.in_err-n.ensures.0) (no_checked _ c.in_err-n.ensures.1)

pub returns-in_err-trailer : goal.returns-in_err-trailer
returns-in_err-trailer c =
    let e = err_from_is_err_and c.from_residual-in_err-trailer.result c.from_residual-in_err-trailer.ensures.1 in
    rw (e.1, e.2, c.in_err-trailer.ensures.0) (damaged_checked _ _ c.in_ok-n.ensures c.in_err-trailer.ensures.1)

pub returns : goal.returns
returns c =
    let n = c.in_ok-n.n in
    let j = c.in_ok-trailer.ensures in
    stands_checked _ n j.0 j.1 _ (ap (λ (t : Trailer). t.held.tree.length) j.2 ∙ stands_length _ n j.1.counted j.0 j.1)
