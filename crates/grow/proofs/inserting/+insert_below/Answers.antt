-- At a leaf the mark goes in and the leaf is settled; at a fork, which counts the mark, it goes to the child, and the
-- fork is balanced again where the child has grown. Assumes nothing.
use native.Mathlib.Omega.{arith}
use mathlib.Core.Bool.{◌&&◌}
use mathlib.Core.Path.{sym, ap, ◌∙◌}
use mir.Syntax.{w64}
use mir.Val.{to_z}
use Rattle.pool.specs.Node.{as_node}
use Rattle.pool.proofs.Standing.{rooted_node}
use Rattle.descent.proofs.Back.{after_held}
use Rattle.descent.proofs.Digits.{byte_fits}
use Rattle.descent.proofs.Down.{stepped, fork_level, left_within}
use Rattle.grow.proofs.Descending.{counted_here, insert_leveled, insert_level, insert_stale, left_fits, settled_leaf, to_child, to_settle}
use Rattle.grow.proofs.inserting.+insert_below.Goals as goal

-- ---- needs

pub leaf_or_fork-requires : goal.leaf_or_fork-requires
leaf_or_fork-requires t c = let b = c.requires in rooted_node b.at.tree b.at.site.rooted

pub overflow_add-root : goal.overflow_add-root
overflow_add-root t c =
    let b = c.requires in
    let few = b.at.site.few in
    omega (arith, b.at.total_is)

pub settle-requires : goal.settle-requires
settle-requires t c =
    to_settle c.requires c.args.bit (sym c.leaf_or_fork.ensures ∙ ap as_node c.in-Leaf.is) c.insert.ensures

pub toward-step-requires : goal.toward-step-requires
toward-step-requires t c =
    let b = c.requires in
    left_within b.at.site.rooted (sym c.leaf_or_fork.ensures ∙ ap as_node c.in-Fork.is) b.at.total_is

pub overflow_add-total : goal.overflow_add-total
overflow_add-total t c =
    byte_fits _ c.toward-step.result.left (left_fits c.requires (sym c.leaf_or_fork.ensures ∙ ap as_node c.in-Fork.is)).0

pub overflow_add-ones : goal.overflow_add-ones
overflow_add-ones t c =
    byte_fits _ (c.toward-step.result.left && c.args.bit) (left_fits c.requires (sym c.leaf_or_fork.ensures ∙ ap as_node c.in-Fork.is)).1

pub overflow_sub-levels : goal.overflow_sub-levels
overflow_sub-levels t c = fork_level c.requires.at.site.rooted (sym c.leaf_or_fork.ensures ∙ ap as_node c.in-Fork.is)

pub insert_below-change-requires : goal.insert_below-change-requires
insert_below-change-requires t c =
    let step = counted_here c.args.bit (stepped (sym c.leaf_or_fork.ensures ∙ ap as_node c.in-Fork.is) c.toward-step.ensures.to_left
    c.toward-step.ensures.to_right)
    c.set_left.ensures in
    let b = c.requires in
    (omega (arith, c.decreases, fork_level b.at.site.rooted step.step.read), to_child step b)

pub returns-then-change-eq0 : goal.returns-then-change-eq0
returns-then-change-eq0 t c =
    let step = counted_here c.args.bit (stepped (sym c.leaf_or_fork.ensures ∙ ap as_node c.in-Fork.is) c.toward-step.ensures.to_left
    c.toward-step.ensures.to_right)
    c.set_left.ensures in
    λ b.
    insert_level step b (after_held c.insert_below-change.result (record { sfits = c.insert_below-change.type_inv })
    (c.insert_below-change.ensures (to_child step b))) (ap (to_z w64) c.if-change-eq0.true)

pub child_changed-requires : goal.child_changed-requires
child_changed-requires t c =
    let step = counted_here c.args.bit (stepped (sym c.leaf_or_fork.ensures ∙ ap as_node c.in-Fork.is) c.toward-step.ensures.to_left
    c.toward-step.ensures.to_right)
    c.set_left.ensures in
    let b = c.requires in
    insert_stale step b (after_held c.insert_below-change.result (record { sfits = c.insert_below-change.type_inv })
    (c.insert_below-change.ensures (to_child step b)))

pub returns-in-Leaf : goal.returns-in-Leaf
returns-in-Leaf t c =
    λ b.
    let bit = c.args.bit in
    let made = c.insert.ensures in
    let read = sym c.leaf_or_fork.ensures ∙ ap as_node c.in-Leaf.is in
    let done = c.settle in
    after_held done.result (record { sfits = done.type_inv })
    (settled_leaf b bit read made (done.ensures (to_settle b bit read made)))

pub returns-else-change-eq0 : goal.returns-else-change-eq0
returns-else-change-eq0 t c =
    let step = counted_here c.args.bit (stepped (sym c.leaf_or_fork.ensures ∙ ap as_node c.in-Fork.is) c.toward-step.ensures.to_left
    c.toward-step.ensures.to_right)
    c.set_left.ensures in
    λ b.
    let changed = c.child_changed in
    after_held changed.result (record { sfits = changed.type_inv })
    (insert_leveled step b (after_held c.insert_below-change.result (record { sfits = c.insert_below-change.type_inv })
    (c.insert_below-change.ensures (to_child step b))) changed.ensures)
