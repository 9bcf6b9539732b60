-- A leaf loses its first mark; a fork's left child does, and the fork's totals of it lose that mark. Assumes nothing.
use native.Mathlib.Omega.{arith}
use mathlib.Core.Path.{sym}
use Rattle.model.specs.Word.{digit}
use Rattle.pool.proofs.Standing.{rooted_node}
use Rattle.spine.proofs.Along.{level, first_at_leaf, first_below, first_counts, first_at_fork}
use Rattle.spine.proofs.edges.+drop_first.Goals as goal

pub leaf_or_fork-requires : goal.leaf_or_fork-requires
leaf_or_fork-requires t c = let p = c.requires in rooted_node p.0 p.1.tree.rooted

pub overflow_sub-levels : goal.overflow_sub-levels
overflow_sub-levels t c = let p = c.requires in level p.0 p.1.tree.rooted (sym c.in-Fork.ensures)

pub drop_first-bit-requires : goal.drop_first-bit-requires
drop_first-bit-requires t c =
    let p = c.requires in
    let read = sym c.in-Fork.ensures in
    (omega (arith, level p.0 p.1.tree.rooted read), first_below p.0 p.1 read)

pub less_left-requires : goal.less_left-requires
unfolding digit
less_left-requires t c =
    let p = c.requires in first_counts p.0 p.1 (sym c.in-Fork.ensures) c.drop_first-bit.ensures

pub returns-in-Leaf : goal.returns-in-Leaf
returns-in-Leaf t c = λ u q. first_at_leaf u q (sym c.in-Leaf.ensures) c.remove.ensures c.set_node.ensures c.bit_at.ensures

pub returns-in-Fork : goal.returns-in-Fork
unfolding digit
returns-in-Fork t c = λ u q. first_at_fork u q (sym c.in-Fork.ensures) c.drop_first-bit.ensures c.less_left.ensures
