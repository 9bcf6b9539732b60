-- A child is one level down, and at level 0 stands a leaf.
use Rattle.spine.proofs.edges.+put_before.Given as goal

abbrev pub decreases-put_before : goal.decreases-put_before
decreases-put_before l = l.levels
