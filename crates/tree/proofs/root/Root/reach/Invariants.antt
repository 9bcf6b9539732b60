-- What the loop keeps, and the measure that falls.
use Rattle.tree.specs.TreeAt.{TreeAt}
use Rattle.tree.proofs.Down.{On}
use Rattle.tree.proofs.Questions.{Reaching}
use Rattle.tree.proofs.root.Root.reach.Given as goal

abbrev pub invariant-loop-leaf : goal.invariant-loop-leaf
invariant-loop-leaf l =
    (s : TreeAt l.nodes l.fn.self 12) → On l.nodes l.here.node l.levels (Reaching s.tree l.place l.here.length l.at l.ones)

abbrev pub decreases-loop-leaf : goal.decreases-loop-leaf
decreases-loop-leaf l = l.levels
