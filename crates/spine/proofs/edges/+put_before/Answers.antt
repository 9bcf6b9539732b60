-- At a leaf the marks are joined before its own; at a fork they go to the left child, whose totals grow by theirs. Assumes nothing.
use native.Mathlib.Omega.{arith}
use mathlib.Core.Path.{sym}
use Rattle.pool.proofs.Standing.{rooted_node}
use Rattle.spine.proofs.Along.{level, before_at_leaf, before_below, before_fits, before_at_fork}
use Rattle.spine.proofs.edges.+put_before.Goals as goal

pub leaf_or_fork-requires : goal.leaf_or_fork-requires
leaf_or_fork-requires t c = let p = c.requires in rooted_node p.0 p.2.tree.rooted

pub overflow_sub-levels : goal.overflow_sub-levels
overflow_sub-levels t c = let p = c.requires in level p.0 p.2.tree.rooted (sym c.in-Fork.ensures)

pub put_before-requires : goal.put_before-requires
put_before-requires t c =
    let p = c.requires in
    let read = sym c.in-Fork.ensures in
    (omega (arith, level p.0 p.2.tree.rooted read), before_below p.0 p.1 p.2 read p.3)

-- the totals of the left child stay within a word

pub overflow_add-fork : goal.overflow_add-fork
overflow_add-fork t c = let p = c.requires in omega (arith, (before_fits p.0 p.1 p.2 (sym c.in-Fork.ensures) p.3).0)

pub overflow_add-fork-in-Fork : goal.overflow_add-fork-in-Fork
overflow_add-fork-in-Fork t c = let p = c.requires in omega (arith, (before_fits p.0 p.1 p.2 (sym c.in-Fork.ensures) p.3).1)

pub returns-in-Leaf : goal.returns-in-Leaf
returns-in-Leaf t c = λ u ys q. before_at_leaf u ys q (sym c.in-Leaf.ensures) c.join.ensures c.set_node.ensures

pub returns-in-Fork : goal.returns-in-Fork
returns-in-Fork t c = λ u ys q.
    before_at_fork u ys q (sym c.in-Fork.ensures) c.put_before.ensures c.with_left-counted.ensures c.set_node-in-Fork.ensures
