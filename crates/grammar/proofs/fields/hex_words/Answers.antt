use Rattle.grammar.proofs.Gathering.{gather_not, gather_one, gathered_all, gathered_none}
use Rattle.grammar.proofs.fields.hex_words.Goals as goal

pub loop-rest-init : goal.loop-rest-init
loop-rest-init c = gathered_none _ _ c.requires

pub returns-in_err-word : goal.returns-in_err-word
returns-in_err-word c =
    rw c.from_residual.ensures
    (gather_not (rw c.in-Some.is at c.loop-rest.invariant) c.first_field.result.1 c.first_field.ensures.fields c.in_err-word.ensures)

pub loop-rest-preserved : goal.loop-rest-preserved
loop-rest-preserved c =
    let cut = c.first_field.ensures in
    gather_one (rw c.in-Some.is at c.loop-rest.invariant) c.first_field.result.1 cut.fields cut.lengths c.in_ok-word.ensures

pub returns : goal.returns
returns c = gathered_all {was = c.args.words.now} (rw c.in_default.is at c.loop-rest.invariant)
