-- Where two nodes may be taken there is room for any insert; else the leaf that the place leads to tells whether it
-- splits. Assumes nothing.
use native.Mathlib.Omega.{arith}
use mathlib.Core.Path.{◌∙◌}
use Rattle.model.proofs.Floor.{leaf_at_most}
use Rattle.tree.specs.TreeAt.{tree_at}
use Rattle.grow.proofs.Asking.{room_given, room_in_leaf}
use Rattle.grow.proofs.inserting.room.Goals as goal

pub returns-then-may : goal.returns-then-may
returns-then-may c = λ b. c.if-may.true ∙ room_given _ c.args.index b.pool c.if-may.true

pub leaf_size-requires : goal.leaf_size-requires
leaf_size-requires c = let b = c.requires in (tree_at b.pool.tree b.rooted b.total_is, b.within)

pub overflow_add-result : goal.overflow_add-result
overflow_add-result c =
    let b = c.requires in
    let told = c.leaf_size.ensures (tree_at b.pool.tree b.rooted b.total_is) in
    omega (arith, told, leaf_at_most 0 c.args.index b.pool.tree b.rooted.sized)

pub returns-else-may : goal.returns-else-may
returns-else-may c = λ b.
    room_in_leaf _ c.args.index _ b.pool c.if-may.false
    (c.leaf_size.ensures (tree_at b.pool.tree b.rooted b.total_is))
