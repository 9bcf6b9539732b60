use Rattle.std.proofs.Common.{◌∙◌}
use Rattle.text.proofs.Seeking.{place_or_end}
use Rattle.text.proofs.fields.field_end.Goals as goal

pub returns-clause-place : goal.returns-clause-place
returns-clause-place c = c.unwrap_or.ensures ∙ place_or_end 32 c.args.fields.now c.find.ensures
