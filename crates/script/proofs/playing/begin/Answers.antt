-- A pool of so many nodes is built empty, or the number is refused.
use mathlib.Core.List.{[], ◌++◌}
use lib.ListN.{drop}
use Rattle.std.specs.Prelude.{Ok, Err}
use Rattle.order.specs.declared.answer.Refusal.TheVariants.{WrongSize}
use Rattle.grammar.specs.Lines.{pooling}
use Rattle.script.specs.Playing.{extent_of}
use Rattle.script.proofs.Effects.{extent_is, no_extent, pool_did, pool_refused, some_in_use}
use Rattle.script.proofs.Outcomes.{played, pool_shows, told}
use Rattle.script.proofs.playing.begin.Goals as goal

pub returns-in_default : goal.returns-in_default
returns-in_default c = λ s h.
    let a = c.args in
    played (pooling a.n) s a.pool.now a.nodes.now a.out.now (Err WrongSize) [] a.nodes.now c.tell.result a.pool.now c.tell.new.out
    (pool_refused s a.pool.now a.nodes.now a.n h (no_extent a.n c.in_default.ensures))
    (pool_shows a.n s) (told (Err WrongSize) [] a.out.now _ c.from.ensures c.tell.ensures.end c.tell.ensures.written)

pub slice_bounds-build-end : goal.slice_bounds-build-end
slice_bounds-build-end c = (some_in_use c.args.n c.args.pool.now c.in-Some.ensures c.told-pool).within

pub slice_bounds-build-end-2 : goal.slice_bounds-build-end-2
slice_bounds-build-end-2 c = (some_in_use c.args.n c.args.pool.now c.in-Some.ensures c.told-pool).as_long

pub returns : goal.returns
returns c = λ s h.
    let a = c.args in
    let found = extent_is a.n c.in-Some.ensures in
    rw found.1
    (played (pooling a.n) s a.pool.now a.nodes.now a.out.now (Ok a.n) [] a.n c.tell-2.result
    (c.build.new.pool ++ drop (extent_of a.n) a.pool.now) c.tell-2.new.out
    (pool_did s a.pool.now a.nodes.now a.n c.build.result c.build.new.pool c.told-pool h found.0 (rw found.1 at c.build.ensures))
    (pool_shows a.n s) (told (Ok a.n) [] a.out.now _ c.from-2.ensures c.tell-2.ensures.end c.tell-2.ensures.written))
