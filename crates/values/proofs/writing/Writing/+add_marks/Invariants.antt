-- The measure that falls.
use Rattle.values.proofs.writing.Writing.+add_marks.Given as goal

abbrev pub decreases-add_marks : goal.decreases-add_marks
decreases-add_marks l = l.levels
