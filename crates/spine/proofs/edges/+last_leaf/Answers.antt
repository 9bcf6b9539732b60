-- A leaf is its own last one; a fork's last leaf is its right child's. Assumes nothing.
use native.Mathlib.Omega.{arith}
use mathlib.Core.Path.{sym}
use Rattle.tree.proofs.Down.{stands_node, stands_fork}
use Rattle.spine.proofs.Along.{last_of_leaf, last_of_fork}
use Rattle.spine.proofs.edges.+last_leaf.Goals as goal

pub leaf_or_fork-requires : goal.leaf_or_fork-requires
leaf_or_fork-requires t c = stands_node c.requires

pub children-requires : goal.children-requires
children-requires t c = (stands_fork c.requires c.leaf_or_fork.ensures c.in-Fork.is).within

pub overflow_sub-levels : goal.overflow_sub-levels
overflow_sub-levels t c = (stands_fork c.requires c.leaf_or_fork.ensures c.in-Fork.is).level

pub last_leaf-requires : goal.last_leaf-requires
last_leaf-requires t c =
    let q = stands_fork c.requires c.leaf_or_fork.ensures c.in-Fork.is in
    rw c.children.ensures (omega (arith, q.level), q.right)

pub returns-in-Leaf : goal.returns-in-Leaf
returns-in-Leaf t c = λ s. last_of_leaf s (sym c.in-Leaf.ensures)

pub returns-in-Fork : goal.returns-in-Fork
returns-in-Fork t c = λ s. last_of_fork s (sym c.in-Fork.ensures) (rw c.children.ensures at c.last_leaf.ensures)
