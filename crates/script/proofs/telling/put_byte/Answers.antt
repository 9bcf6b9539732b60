-- A store is a text of one byte.
use mathlib.Core.Path.{sym}
use Rattle.text.proofs.Putting.{over_one}
use Rattle.script.proofs.telling.put_byte.Goals as goal

pub returns-clause-written : goal.returns-clause-written
returns-clause-written c = sym (over_one _ _ _ c.requires)
