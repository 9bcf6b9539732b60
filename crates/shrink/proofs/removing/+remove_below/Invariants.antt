-- The measure that falls.
use Rattle.shrink.proofs.removing.+remove_below.Given as goal

abbrev pub decreases-remove_below : goal.decreases-remove_below
decreases-remove_below l = l.levels
