-- A leaf's marks go by; at a fork those of its left child do, and then those of its right one. Assumes nothing.
use native.Mathlib.Omega.{arith}
use Rattle.tree.proofs.Down.{stands_node, stands_leaf, stands_fork}
use Rattle.quiet.proofs.Visited.{leaf_visited, left_since, fork_visited}
use Rattle.quiet.proofs.longest.+after_tree.Goals as goal

pub leaf_or_fork-requires : goal.leaf_or_fork-requires
leaf_or_fork-requires t c = stands_node c.requires.0

pub after_leaf-requires : goal.after_leaf-requires
after_leaf-requires t c =
    let p = c.requires in
    let lone = stands_leaf p.0 c.leaf_or_fork.ensures c.in-Leaf.is in
    (omega (arith, lone.small), p.1)

pub overflow_sub-below : goal.overflow_sub-below
overflow_sub-below t c = (stands_fork c.requires.0 c.leaf_or_fork.ensures c.in-Fork.is).level

pub children-requires : goal.children-requires
children-requires t c = (stands_fork c.requires.0 c.leaf_or_fork.ensures c.in-Fork.is).within

pub after_tree-first-requires : goal.after_tree-first-requires
after_tree-first-requires t c =
    let q = stands_fork c.requires.0 c.leaf_or_fork.ensures c.in-Fork.is in
    rw c.children.ensures (omega (arith, c.decreases, q.level), (q.left, omega (arith, c.requires.1, q.within)))

pub after_tree-requires : goal.after_tree-requires
after_tree-requires t c =
    let q = stands_fork c.requires.0 c.leaf_or_fork.ensures c.in-Fork.is in
    let first = c.after_tree-first.ensures (rw c.children.ensures q.left) in
    rw c.children.ensures (omega (arith, c.decreases, q.level), (q.right, omega (arith, c.requires.1, left_since q _ first, q.within)))

pub returns-in-Leaf : goal.returns-in-Leaf
returns-in-Leaf t c = λ s.
    leaf_visited (stands_leaf s c.leaf_or_fork.ensures c.in-Leaf.is) _ c.after_leaf.ensures

pub returns-in-Fork : goal.returns-in-Fork
returns-in-Fork t c =
    λ s.
    let q = stands_fork s c.leaf_or_fork.ensures c.in-Fork.is in
    fork_visited q _ (c.after_tree-first.ensures (rw c.children.ensures q.left)) (c.after_tree.ensures (rw c.children.ensures q.right))
