-- The walk stands on a subtree to whose place the place leads; at a leaf it is there. Assumes nothing.
use mathlib.Core.List.{List}
use Rattle.model.specs.Tree.{Tree}
use Rattle.model.proofs.Depth.{size_bound}
use Rattle.pool.specs.declared.node.Fork.{Fork}
use Prim.Native.Nat.{ℕ, ◌≤◌}
use native.Mathlib.Omega.{arith}
use mathlib.Core.Bool.{true}
use Rattle.tree.proofs.Down.{OnFork, on_node, on_leaf, on_level, on_fork, told_leaf, told_fork}
use Rattle.tree.proofs.Questions.{Reaching, reach_here, reach_step, reach_total, rank_most}
use Rattle.tree.proofs.root.Root.reach.Goals as goal

-- a fork that the walk stands on has levels below it, and its left child holds no more than it
within : {w : List ℕ} {n levels place len at ones : ℕ} {t : Tree} {f : Fork} → OnFork w n levels (Reaching t place len at ones) f
    → (1 ≤ levels) × (f.left_total ≤ len)
within here = (on_level here, on_fork here (λ m u v e q. reach_total m u v _ e q))

pub leaf_or_fork-requires : goal.leaf_or_fork-requires
leaf_or_fork-requires c = on_node (c.loop-leaf.invariant c.requires.0)

pub returns-in-Leaf : goal.returns-in-Leaf
returns-in-Leaf c = λ s.
    on_leaf (told_leaf (c.loop-leaf.invariant s) c.leaf_or_fork.ensures c.in-Leaf.is) (λ m xs e k p. reach_here m xs _ e k p)

pub loop-leaf-preserved : goal.loop-leaf-preserved
loop-leaf-preserved c =
    λ s.
    let step = c.toward-step in
    reach_step (told_fork (c.loop-leaf.invariant s) c.leaf_or_fork.ensures c.in-Fork.is) _ step.ensures.to_left step.ensures.to_right
    c.either-ones.ensures

pub overflow_add-ones : goal.overflow_add-ones
overflow_add-ones c =
    let s = c.requires.0 in
    let step = c.toward-step in
    omega (
      arith,
      (reach_step (told_fork (c.loop-leaf.invariant s) c.leaf_or_fork.ensures c.in-Fork.is) _ step.ensures.to_left step.ensures.to_right
          c.either-ones.ensures).here.strikes,
      rank_most s.tree true c.args.place,
      size_bound 0 s.tree 12 s.rooted.sized s.rooted.deep,
    )

pub loop-leaf-smaller : goal.loop-leaf-smaller
loop-leaf-smaller c =
    let here = told_fork (c.loop-leaf.invariant c.requires.0) c.leaf_or_fork.ensures c.in-Fork.is in
    omega (arith, within here)

pub overflow_sub-levels : goal.overflow_sub-levels
overflow_sub-levels c =
    let here = told_fork (c.loop-leaf.invariant c.requires.0) c.leaf_or_fork.ensures c.in-Fork.is in
    (within here).0

pub toward-step-requires : goal.toward-step-requires
toward-step-requires c =
    let here = told_fork (c.loop-leaf.invariant c.requires.0) c.leaf_or_fork.ensures c.in-Fork.is in
    (within here).1
