-- A leaf loses the mark; a fork's child does, the fork counts it no more, and then it is mended, left as it is, or
-- balanced. Assumes nothing.
use native.Mathlib.Omega.{arith}
use mathlib.Core.Path.{sym, ap, ◌∙◌}
use mir.Syntax.{w64}
use mir.Val.{to_z}
use Rattle.pool.specs.Node.{as_node}
use Rattle.pool.proofs.Standing.{rooted_node}
use Rattle.descent.proofs.Down.{stepped, fork_level, left_within}
use Rattle.shrink.proofs.Descending.{gone_held, remove_level, remove_leveled, remove_mended, remove_stale, removed_at_leaf}
use Rattle.shrink.proofs.Descending.{to_child, to_mend, to_uncount}
use Rattle.shrink.proofs.removing.+remove_below.Goals as goal

-- ---- needs

pub leaf_or_fork-requires : goal.leaf_or_fork-requires
leaf_or_fork-requires t c = let b = c.requires in rooted_node b.at.tree b.at.site.rooted

pub toward-step-requires : goal.toward-step-requires
toward-step-requires t c =
    let b = c.requires in
    left_within b.at.site.rooted (sym c.leaf_or_fork.ensures ∙ ap as_node c.in-Fork.is) b.at.total_is

pub overflow_sub-below : goal.overflow_sub-below
overflow_sub-below t c =
    let step = stepped (sym c.leaf_or_fork.ensures ∙ ap as_node c.in-Fork.is) c.toward-step.ensures.to_left c.toward-step.ensures.to_right in
    fork_level c.requires.at.site.rooted step.read

pub remove_below-change-requires : goal.remove_below-change-requires
remove_below-change-requires t c =
    let step = stepped (sym c.leaf_or_fork.ensures ∙ ap as_node c.in-Fork.is) c.toward-step.ensures.to_left c.toward-step.ensures.to_right in
    let pre = c.requires in
    (omega (arith, c.decreases, fork_level pre.at.site.rooted step.read), to_child step pre)

pub uncount-requires : goal.uncount-requires
uncount-requires t c =
    let step = stepped (sym c.leaf_or_fork.ensures ∙ ap as_node c.in-Fork.is) c.toward-step.ensures.to_left c.toward-step.ensures.to_right in
    let b = c.requires in
    to_uncount step b (gone_held _ (record { sfits = c.remove_below-change.type_inv }) (c.remove_below-change.ensures (to_child step b)))

pub overflow_sub-root : goal.overflow_sub-root
overflow_sub-root t c =
    let b = c.requires in
    omega (arith, b.within)

pub mend-requires : goal.mend-requires
mend-requires t c =
    let step = stepped (sym c.leaf_or_fork.ensures ∙ ap as_node c.in-Fork.is) c.toward-step.ensures.to_left c.toward-step.ensures.to_right in
    let b = c.requires in
    to_mend step b (gone_held _ (record { sfits = c.remove_below-change.type_inv }) (c.remove_below-change.ensures (to_child step b)))
    c.uncount.ensures c.if-step-le-LEAF_LEAST.true

pub returns-then-step-le-LEAF_LEAST : goal.returns-then-step-le-LEAF_LEAST
returns-then-step-le-LEAF_LEAST t c =
    let step = stepped (sym c.leaf_or_fork.ensures ∙ ap as_node c.in-Fork.is) c.toward-step.ensures.to_left c.toward-step.ensures.to_right in
    λ b.
    let m = c.mend in
    let way = step in
    let few = c.if-step-le-LEAF_LEAST.true in
    let stored = c.uncount.ensures in
    gone_held m.result (record { sfits = m.type_inv })
    (remove_mended way b (gone_held _ (record { sfits = c.remove_below-change.type_inv }) (c.remove_below-change.ensures
    (to_child step b))) stored few (m.ensures (to_mend way b (gone_held _ (record { sfits = c.remove_below-change.type_inv })
    (c.remove_below-change.ensures (to_child step b))) stored few)))

pub returns-then-change-eq0 : goal.returns-then-change-eq0
returns-then-change-eq0 t c =
    let step = stepped (sym c.leaf_or_fork.ensures ∙ ap as_node c.in-Fork.is) c.toward-step.ensures.to_left c.toward-step.ensures.to_right in
    λ b.
    remove_level step b (gone_held _ (record { sfits = c.remove_below-change.type_inv }) (c.remove_below-change.ensures (to_child step b)))
    c.uncount.ensures c.if-step-le-LEAF_LEAST.false (ap (to_z w64) c.if-change-eq0.true)

pub child_changed-requires : goal.child_changed-requires
child_changed-requires t c =
    let step = stepped (sym c.leaf_or_fork.ensures ∙ ap as_node c.in-Fork.is) c.toward-step.ensures.to_left c.toward-step.ensures.to_right in
    let b = c.requires in
    remove_stale step b (gone_held _ (record { sfits = c.remove_below-change.type_inv }) (c.remove_below-change.ensures (to_child step b)))
    c.uncount.ensures c.if-step-le-LEAF_LEAST.false

pub returns-in-Leaf : goal.returns-in-Leaf
returns-in-Leaf t c = λ b.
    removed_at_leaf b (sym c.leaf_or_fork.ensures ∙ ap as_node c.in-Leaf.is)
    c.remove.ensures c.set_node.ensures c.bit_at.ensures

pub returns-else-change-eq0 : goal.returns-else-change-eq0
returns-else-change-eq0 t c =
    let step = stepped (sym c.leaf_or_fork.ensures ∙ ap as_node c.in-Fork.is) c.toward-step.ensures.to_left c.toward-step.ensures.to_right in
    λ b.
    let d = c.child_changed in
    gone_held d.result (record { sfits = d.type_inv })
    (remove_leveled step b (gone_held _ (record { sfits = c.remove_below-change.type_inv }) (c.remove_below-change.ensures
    (to_child step b))) c.uncount.ensures c.if-step-le-LEAF_LEAST.false d.ensures)
