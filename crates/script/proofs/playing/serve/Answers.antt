-- One order is run on the pool in use, and its two words are told, or the refusal.
use mathlib.Core.Path.{refl}
use Rattle.script.proofs.Effects.{in_use}
use Rattle.script.proofs.Outcomes.{refused_played, served_played}
use Rattle.script.proofs.playing.serve.Goals as goal

pub slice_bounds-run-end : goal.slice_bounds-run-end
slice_bounds-run-end c = (in_use c.args.nodes c.args.pool.now c.extent.ensures c.unwrap_or-end.ensures c.told-pool).within

pub slice_bounds-run-end-2 : goal.slice_bounds-run-end-2
slice_bounds-run-end-2 c = (in_use c.args.nodes c.args.pool.now c.extent.ensures c.unwrap_or-end.ensures c.told-pool).as_long

pub returns-in-Ok : goal.returns-in-Ok
returns-in-Ok c = λ s h.
    let a = c.args in
    let used = in_use a.nodes a.pool.now c.extent.ensures c.unwrap_or-end.ensures c.told-pool in
    served_played a.pool.now a.nodes a.out.now a.order _ _ c.run.result c.run.new.pool c.run.new.out
    used.is c.told-pool refl c.from-list.ensures c.run.ensures s h c.in-Ok.is _ _
    (c.tell.ensures.end, c.tell.ensures.written)

pub returns-in-Err : goal.returns-in-Err
returns-in-Err c = λ s h.
    let a = c.args in
    let used = in_use a.nodes a.pool.now c.extent.ensures c.unwrap_or-end.ensures c.told-pool in
    refused_played a.pool.now a.nodes a.out.now a.order _ _ c.run.result c.run.new.pool c.run.new.out
    used.is c.told-pool refl c.from-list.ensures c.run.ensures s h c.in-Err.is _ c.from.ensures _ _
    (c.tell-in-Err.ensures.end, c.tell-in-Err.ensures.written)
