-- A child is one level down, and at level 0 stands a leaf.
use Rattle.spine.proofs.edges.+first_leaf_size.Given as goal

abbrev pub decreases-first_leaf_size : goal.decreases-first_leaf_size
decreases-first_leaf_size l = l.levels
