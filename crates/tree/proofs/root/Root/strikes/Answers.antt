-- The strikes before the leaf, and those before the place in it. Assumes nothing.
use native.Mathlib.Omega.{arith}
use mathlib.Core.Bool.{true}
use Rattle.model.proofs.Depth.{size_bound}
use Rattle.tree.proofs.Questions.{counted, rank_most}
use Rattle.tree.proofs.root.Root.strikes.Goals as goal

pub overflow_add-result : goal.overflow_add-result
overflow_add-result c =
    let s = c.requires.0 in
    omega (
      arith,
      counted (c.reach-spot.ensures s) c.count_before.ensures,
      rank_most s.tree true c.args.end,
      size_bound 0 s.tree 12 s.rooted.sized s.rooted.deep,
    )

pub returns : goal.returns
returns c = λ s. counted (c.reach-spot.ensures s) c.count_before.ensures
