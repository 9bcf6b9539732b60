-- The marks of the short leaf are put to the other child, and that child's top is copied to n. Assumes nothing.
use Rattle.model.specs.Tree.{marks}
use Rattle.shrink.proofs.Joining.{merge_left_asks, merge_left_fits, merge_right_asks, merge_done, merge_moves, short_read_leaf}
use Rattle.shrink.proofs.mending.merge.Goals as goal

pub leaf_at-leaf-requires : goal.leaf_at-leaf-requires
leaf_at-leaf-requires c = short_read_leaf (rw c.if-left.true at c.requires).short

pub put_before-requires : goal.put_before-requires
put_before-requires c =
    let b = rw c.if-left.true at c.requires in
    (b.short.over.r, marks b.short.over.l, merge_left_asks b c.leaf_at-leaf.ensures, merge_left_fits b)

pub move_node-requires : goal.move_node-requires
move_node-requires c =
    let b = rw c.if-left.true at c.requires in
    let asks = merge_left_asks b c.leaf_at-leaf.ensures in
    merge_moves b (c.put_before.ensures b.short.over.r (marks b.short.over.l) asks)

pub returns-then-left : goal.returns-then-left
returns-then-left c =
    rw c.if-left.true
    (λ b.
    merge_done b
    (c.put_before.ensures _ _ (merge_left_asks b c.leaf_at-leaf.ensures))
    c.move_node.ensures)

pub leaf_at-leaf-requires-2 : goal.leaf_at-leaf-requires-2
leaf_at-leaf-requires-2 c = short_read_leaf (rw c.if-left.false at c.requires).short

pub put_after-requires : goal.put_after-requires
put_after-requires c =
    let b = rw c.if-left.false at c.requires in
    (b.short.over.l, marks b.short.over.r, rw c.left_tree.ensures (merge_right_asks b c.leaf_at-leaf-2.ensures))

pub move_node-requires-2 : goal.move_node-requires-2
move_node-requires-2 c =
    let b = rw c.if-left.false at c.requires in
    let asks = merge_right_asks b c.leaf_at-leaf-2.ensures in
    merge_moves b (c.put_after.ensures b.short.over.l (marks b.short.over.r) (rw c.left_tree.ensures asks))

pub returns : goal.returns
returns c =
    rw c.if-left.false
    (λ b.
    merge_done b
    (c.put_after.ensures _ _ (rw c.left_tree.ensures (merge_right_asks b c.leaf_at-leaf-2.ensures)))
    c.move_node-2.ensures)
