-- The walk stands on the subtree that has the mark, or that ends the tree where there are too few; in a leaf it is told which.
-- Assumes nothing.
use Prim.Native.Nat.{ℕ, ◌+◌, ◌^◌, ◌≤◌, ◌<◌}
use mathlib.Core.Bool.{Bool}
use mathlib.Core.List.{List}
use Rattle.pool.specs.declared.node.Fork.{Fork}
use native.Mathlib.Omega.{arith}
use borrow.Author.Rules.{rules}
use mathlib.Core.Path.{◌∙◌}
use Rattle.model.proofs.Depth.{size_bound}
use Rattle.bits.specs.Leaf.{bits_of}
use Rattle.tree.specs.TreeAt.{TreeAt}
use Rattle.tree.specs.declared.root.Root.{Root}
use Rattle.tree.proofs.Down.{OnFork, picked_most, on_node, on_leaf, on_level, on_fork, told_leaf, told_fork}
use Rattle.tree.proofs.Questions.{Selecting, select_begin, select_near, select_here, select_step, select_strikes, select_before}
use Rattle.tree.proofs.root.Root.select.Goals as goal

-- a fork that the walk stands on has levels below it, its left child no more strikes than marks, and the marks can be counted
says : {w : List ℕ} {root : Root} {n levels k skip before : ℕ} {bit : Bool} (s : TreeAt w root 12) {f : Fork}
    → OnFork w n levels (Selecting s.tree bit k skip before) f
    → (1 ≤ levels) × (f.left_ones ≤ f.left_total) × (before + f.left_total < 2 ^ 64)
says s here =
    let within = on_fork here (λ m u v e q. select_before m u v _ e q) in (
      on_level here,
      on_fork here (λ m u v e q. select_strikes m u v _ e q),
      omega (arith, within, size_bound 0 s.tree 12 s.rooted.sized s.rooted.deep),
    )

pub loop-leaf-init : goal.loop-leaf-init
loop-leaf-init c = λ s. record { tree = s.tree; rooted = s.rooted; here = select_begin s.tree _ _ c.requires.1 }

pub leaf_or_fork-requires : goal.leaf_or_fork-requires
leaf_or_fork-requires c = on_node (c.loop-leaf.invariant c.requires.0)

pub overflow_add-skip : goal.overflow_add-skip
overflow_add-skip c =
    omega (arith, (c.loop-leaf.invariant c.requires.0).here.less, c.ranges.k)

pub placed-requires : goal.placed-requires
unfolding bits_of
placed-requires c =
    let s = c.requires.0 in
    on_leaf (told_leaf (c.loop-leaf.invariant s) c.leaf_or_fork.ensures c.in-Leaf.is)
    (λ m xs e k q. select_near m xs _ e k q _ c.select128.ensures (omega (arith, size_bound 0 s.tree 12 s.rooted.sized s.rooted.deep)))

pub returns-in-Leaf : goal.returns-in-Leaf
unfolding bits_of
returns-in-Leaf c =
    λ s.
    c.placed.ensures
    ∙ on_leaf (told_leaf (c.loop-leaf.invariant s) c.leaf_or_fork.ensures c.in-Leaf.is)
    (λ m xs e k q. select_here m xs _ e k q _ c.select128.ensures _ s.total)

pub overflow_add-before : goal.overflow_add-before
overflow_add-before c =
    let s = c.requires.0 in
    let here = told_fork (c.loop-leaf.invariant s) c.leaf_or_fork.ensures c.in-Fork.is in
    omega (arith, says s here, picked_most c.either-before.ensures)

pub loop-leaf-preserved : goal.loop-leaf-preserved
loop-leaf-preserved c =
    λ s.
    select_step (told_fork (c.loop-leaf.invariant s) c.leaf_or_fork.ensures c.in-Fork.is) c.wanted-here.ensures c.either-n.ensures
    c.either-before.ensures
    c.either-skip.ensures (λ t. search rules) (λ t. search rules)

pub loop-leaf-smaller : goal.loop-leaf-smaller
loop-leaf-smaller c =
    let s = c.requires.0 in
    let here = told_fork (c.loop-leaf.invariant s) c.leaf_or_fork.ensures c.in-Fork.is in
    omega (arith, says s here)

pub overflow_sub-levels : goal.overflow_sub-levels
overflow_sub-levels c =
    let s = c.requires.0 in
    let here = told_fork (c.loop-leaf.invariant s) c.leaf_or_fork.ensures c.in-Fork.is in
    (says s here).0

pub wanted-here-requires : goal.wanted-here-requires
wanted-here-requires c =
    let s = c.requires.0 in
    let here = told_fork (c.loop-leaf.invariant s) c.leaf_or_fork.ensures c.in-Fork.is in
    (says s here).1
