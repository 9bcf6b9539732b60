-- What the loop keeps, and the measure that falls.
use Rattle.tree.specs.TreeAt.{TreeAt}
use Rattle.tree.proofs.Down.{On}
use Rattle.tree.proofs.Questions.{Selecting}
use Rattle.tree.proofs.root.Root.select.Given as goal

abbrev pub invariant-loop-leaf : goal.invariant-loop-leaf
invariant-loop-leaf l =
    (s : TreeAt l.nodes l.self 12) → On l.nodes l.n l.levels (Selecting s.tree l.bit l.k l.skip l.before)

abbrev pub decreases-loop-leaf : goal.decreases-loop-leaf
decreases-loop-leaf l = l.levels
