-- The check tells the length, and the values are the words.
use native.Mathlib.Omega.{arith}
use lib.ListN.{length-take}
use mathlib.Core.Path.{◌∙◌}
use Rattle.script.proofs.Effects.{in_use}
use Rattle.script.proofs.Outcomes.{dump_played, value_is, valued_few}
use Rattle.script.proofs.playing.dump.Goals as goal

pub shared_ref_as_front-check : goal.shared_ref_as_front-check
shared_ref_as_front-check c = (in_use c.args.nodes c.args.pool.now c.extent.ensures c.unwrap_or-end.ensures c.told-pool).within

pub slice_bounds-check-end : goal.slice_bounds-check-end
slice_bounds-check-end c = (in_use c.args.nodes c.args.pool.now c.extent.ensures c.unwrap_or-end.ensures c.told-pool).as_long

pub slice_bounds-values-end : goal.slice_bounds-values-end
slice_bounds-values-end c = (in_use c.args.nodes c.args.pool.now c.extent.ensures c.unwrap_or-end.ensures c.told-pool).as_long

pub tell-requires : goal.tell-requires
tell-requires c =
    let counted = c.unwrap_or-count.ensures ∙ value_is c.values.result in
    let few = valued_few _ _ c.values.result c.values.new.out c.requires c.values.ensures in
    omega (arith, counted, few, length-take c.unwrap_or-count.result c.values.new.out, c.told-out)

pub returns : goal.returns
returns c =
    let a = c.args in
    let used = in_use a.nodes a.pool.now c.extent.ensures c.unwrap_or-end.ensures c.told-pool in
    dump_played a.pool.now a.nodes a.out.now a.words.now c.check-checked.result c.values.result c.values.new.out
    used.is c.told-pool c.requires c.check-checked.ensures c.values.ensures
    (c.unwrap_or-count.ensures ∙ value_is c.values.result) _ c.from.ensures _ _ (c.tell.ensures.end, c.tell.ensures.written)
