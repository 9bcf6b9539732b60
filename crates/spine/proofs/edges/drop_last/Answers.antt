-- The last leaf loses its last mark, and no fork says anything of it. Assumes nothing.
use native.Mathlib.Omega.{arith}
use Rattle.tree.specs.TreeAt.{tree_at}
use Rattle.spine.proofs.Along.{last_read, last_taken}
use Rattle.spine.proofs.edges.drop_last.Goals as goal

pub leaf_at-leaf-requires : goal.leaf_at-leaf-requires
leaf_at-leaf-requires c =
    let p = c.requires in (_, last_read p.0 p.1.tree (c.last_leaf-last.ensures (tree_at p.0 p.1.tree.rooted p.1.total)))

-- the last leaf was found, and it has a mark

pub overflow_sub-index : goal.overflow_sub-index
overflow_sub-index c =
    let p = c.requires in omega (arith, p.1.some, (c.last_leaf-last.ensures (tree_at p.0 p.1.tree.rooted p.1.total)).size_is)

pub returns : goal.returns
returns c = λ t q.
    last_taken t q.tree (c.last_leaf-last.ensures (tree_at t q.tree.rooted q.total)) c.leaf_at-leaf.ensures c.set_node.ensures
    q.some c.remove.ensures c.bit_at.ensures
