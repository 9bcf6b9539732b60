-- A leaf's marks are added; a fork's are its left child's and then its right child's. Assumes nothing.
use mathlib.Core.Path.{sym, ◌∙◌}
use native.Mathlib.Omega.{arith}
use Rattle.model.specs.Tree.{marks}
use Rattle.model.proofs.Content.{size_marks}
use Rattle.tree.proofs.Down.{stands_node, stands_leaf, stands_fork}
use Rattle.values.proofs.Output.{adds_both}
use Rattle.values.proofs.writing.Writing.+add_marks.Goals as goal

pub leaf_or_fork-requires : goal.leaf_or_fork-requires
leaf_or_fork-requires t c = stands_node c.requires.0

pub add_leaf-requires : goal.add_leaf-requires
add_leaf-requires t c =
    let p = c.requires in
    let lone = stands_leaf p.0 c.leaf_or_fork.ensures c.in-Leaf.is in
    (p.1, lone.small, omega (arith, p.2))

pub overflow_sub-below : goal.overflow_sub-below
overflow_sub-below t c = (stands_fork c.requires.0 c.leaf_or_fork.ensures c.in-Fork.is).level

pub children-requires : goal.children-requires
children-requires t c = (stands_fork c.requires.0 c.leaf_or_fork.ensures c.in-Fork.is).within

pub add_marks-requires : goal.add_marks-requires
add_marks-requires t c =
    let p = c.requires in
    let q = stands_fork p.0 c.leaf_or_fork.ensures c.in-Fork.is in
    rw c.children.ensures (omega (arith, c.decreases, q.level), (q.left, p.1, omega (arith, p.2, q.within)))

pub add_marks-requires-in-Fork : goal.add_marks-requires-in-Fork
add_marks-requires-in-Fork t c =
    let q = stands_fork c.requires.0 c.leaf_or_fork.ensures c.in-Fork.is in
    let moved = rw c.children.ensures at c.add_marks.ensures.moved in
    rw c.children.ensures (omega (arith, c.decreases, q.level), (q.right, moved.part, omega (arith, c.requires.2, moved.count, q.within)))

pub returns-in-Leaf-clause-adds : goal.returns-in-Leaf-clause-adds
returns-in-Leaf-clause-adds t c = λ s.
    let lone = stands_leaf s c.leaf_or_fork.ensures c.in-Leaf.is in
    c.add_leaf.ensures.adds (marks s.tree) lone.count lone.marks_are

pub returns-in-Fork-clause-moved : goal.returns-in-Fork-clause-moved
returns-in-Fork-clause-moved t c =
    let within = (stands_fork c.requires.0 c.leaf_or_fork.ensures c.in-Fork.is).within in
    let first = rw c.children.ensures at c.add_marks.ensures.moved in
    let last = rw c.children.ensures at c.add_marks-in-Fork.ensures.moved in
    record { count = omega (arith, first.count, last.count, within); part = last.part }

pub returns-in-Fork-clause-adds : goal.returns-in-Fork-clause-adds
returns-in-Fork-clause-adds t c = λ s.
    let q = stands_fork s c.leaf_or_fork.ensures c.in-Fork.is in
    let size = sym (size_marks q.left.tree) ∙ q.left.total in
    let first = c.add_marks.ensures in
    let last = c.add_marks-in-Fork.ensures in
    rw q.both (adds_both (rw c.children.ensures at first.moved) size (first.adds (rw c.children.ensures q.left))
    (last.adds (rw c.children.ensures q.right)))
