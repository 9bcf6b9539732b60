-- A word alone in a leaf, cut after so many marks: zeros past the marks change no leaf. Assumes nothing.
use mathlib.Core.Path.{◌∙◌}
use Rattle.build.proofs.LeafMarks.{first_of_word}
use Rattle.build.proofs.building.first_marks.Goals as goal

pub returns : goal.returns
returns c = c.join.ensures ∙ first_of_word c.args.word c.args.total c.requires
