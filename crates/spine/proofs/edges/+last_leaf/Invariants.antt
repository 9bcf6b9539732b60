-- A child is one level down, and at level 0 stands a leaf.
use Rattle.spine.proofs.edges.+last_leaf.Given as goal

abbrev pub decreases-last_leaf : goal.decreases-last_leaf
decreases-last_leaf l = l.levels
