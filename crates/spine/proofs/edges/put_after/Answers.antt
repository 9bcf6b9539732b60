-- The marks are joined after those of the last leaf, of which no fork says anything. Assumes nothing.
use Rattle.tree.specs.TreeAt.{tree_at}
use Rattle.spine.proofs.Along.{after_put, last_read}
use Rattle.spine.proofs.edges.put_after.Goals as goal

pub leaf_at-old-requires : goal.leaf_at-old-requires
leaf_at-old-requires c =
    let p = c.requires in (_, last_read p.0 p.2.tree (c.last_leaf-last.ensures (tree_at p.0 p.2.tree.rooted p.2.total)))

pub returns : goal.returns
returns c = λ t ys q.
    after_put t q.tree (c.last_leaf-last.ensures (tree_at t q.tree.rooted q.total)) c.leaf_at-old.ensures c.set_node.ensures
    ys q.held q.room c.join.ensures
