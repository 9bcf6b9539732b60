-- A child is one level down, and at level 0 stands a leaf.
use Rattle.spine.proofs.edges.+drop_first.Given as goal

abbrev pub decreases-drop_first : goal.decreases-drop_first
decreases-drop_first l = l.levels
