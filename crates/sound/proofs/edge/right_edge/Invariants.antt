use Rattle.sound.proofs.Edges.{Down}
use Rattle.sound.proofs.edge.right_edge.Given as goal

abbrev pub invariant-loop-left : goal.invariant-loop-left
invariant-loop-left l = Down l.nodes l.root l.length l.n l.total l.ones l.left

abbrev pub decreases-loop-left : goal.decreases-loop-left
decreases-loop-left l = l.left
