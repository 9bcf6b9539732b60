-- A mark goes from the other child to the short one, and the fork counts it where it is now. Assumes nothing.
use mathlib.Core.List.{[], ◌∷◌}
use Rattle.shrink.proofs.Joining.{borrow_left_asks, borrow_left_puts, borrow_left_fits, borrow_left_done}
use Rattle.shrink.proofs.Joining.{borrow_right_asks, borrow_right_puts, borrow_right_fits, borrow_right_counted, borrow_right_done}
use Rattle.shrink.proofs.mending.borrow.Goals as goal

pub drop_first-bit-requires : goal.drop_first-bit-requires
drop_first-bit-requires c =
    let b = rw c.if-left.true at c.requires in
    (b.short.over.r, borrow_left_asks b)

pub put_after-requires : goal.put_after-requires
put_after-requires c =
    let b = rw c.if-left.true at c.requires in
    let d = c.drop_first-bit in
    let asks = borrow_left_puts b (d.ensures b.short.over.r (borrow_left_asks b)) c.lone.ensures in
    (b.short.over.l, d.result ∷ [], rw c.left_tree.ensures asks)

pub more_left-requires : goal.more_left-requires
more_left-requires c =
    let b = rw c.if-left.true at c.requires in
    borrow_left_fits b (c.drop_first-bit.ensures b.short.over.r (borrow_left_asks b))

pub returns-then-left : goal.returns-then-left
returns-then-left c =
    let d = c.drop_first-bit in
    rw c.if-left.true
    (λ b.
    let taken = d.ensures b.short.over.r (borrow_left_asks b) in
    let asks = borrow_left_puts b taken c.lone.ensures in
    borrow_left_done b taken (c.put_after.ensures b.short.over.l (d.result ∷ []) (rw c.left_tree.ensures asks))
    c.more_left.ensures c.set_node.ensures)

pub drop_last-bit-requires : goal.drop_last-bit-requires
drop_last-bit-requires c =
    let b = rw c.if-left.false at c.requires in
    (b.short.over.l, rw c.left_tree-2.ensures (borrow_right_asks b))

pub put_before-requires : goal.put_before-requires
put_before-requires c =
    let b = rw c.if-left.false at c.requires in
    let d = c.drop_last-bit in
    let taken = d.ensures b.short.over.l (rw c.left_tree-2.ensures (borrow_right_asks b)) in
    (b.short.over.r, d.result ∷ [], borrow_right_puts b taken c.lone-2.ensures, borrow_right_fits b taken)

pub uncount-requires : goal.uncount-requires
uncount-requires c =
    let b = rw c.if-left.false at c.requires in
    let d = c.drop_last-bit in
    let taken = d.ensures b.short.over.l (rw c.left_tree-2.ensures (borrow_right_asks b)) in
    let asks = borrow_right_puts b taken c.lone-2.ensures in
    borrow_right_counted b taken (c.put_before.ensures b.short.over.r (d.result ∷ []) asks)

pub returns : goal.returns
returns c =
    let d = c.drop_last-bit in
    rw c.if-left.false
    (λ b.
    let taken = d.ensures b.short.over.l (rw c.left_tree-2.ensures (borrow_right_asks b)) in
    let asks = borrow_right_puts b taken c.lone-2.ensures in
    borrow_right_done b taken (c.put_before.ensures b.short.over.r (d.result ∷ []) asks) c.uncount.ensures)
