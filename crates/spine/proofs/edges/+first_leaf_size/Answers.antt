-- A leaf's size is the tree's; a fork's first leaf is its left child's. Assumes nothing.
use native.Mathlib.Omega.{arith}
use mathlib.Core.Path.{sym}
use Rattle.tree.proofs.Down.{stands_node, stands_fork}
use Rattle.spine.proofs.Along.{first_of_leaf, first_of_fork}
use Rattle.spine.proofs.edges.+first_leaf_size.Goals as goal

pub leaf_or_fork-requires : goal.leaf_or_fork-requires
leaf_or_fork-requires t c = stands_node c.requires

pub children-requires : goal.children-requires
children-requires t c = (stands_fork c.requires c.leaf_or_fork.ensures c.in-Fork.is).within

pub overflow_sub-levels : goal.overflow_sub-levels
overflow_sub-levels t c = (stands_fork c.requires c.leaf_or_fork.ensures c.in-Fork.is).level

pub first_leaf_size-requires : goal.first_leaf_size-requires
first_leaf_size-requires t c =
    let q = stands_fork c.requires c.leaf_or_fork.ensures c.in-Fork.is in
    rw c.children.ensures (omega (arith, q.level), q.left)

pub returns-in-Leaf : goal.returns-in-Leaf
returns-in-Leaf t c = λ s. first_of_leaf s (sym c.in-Leaf.ensures)

pub returns-in-Fork : goal.returns-in-Fork
returns-in-Fork t c = λ s. first_of_fork s (sym c.in-Fork.ensures) (rw c.children.ensures at c.first_leaf_size.ensures)
