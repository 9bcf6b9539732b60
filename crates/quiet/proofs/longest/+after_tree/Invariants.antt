-- The measure that falls.
use Rattle.quiet.proofs.longest.+after_tree.Given as goal

abbrev pub decreases-after_tree : goal.decreases-after_tree
decreases-after_tree l = l.levels
