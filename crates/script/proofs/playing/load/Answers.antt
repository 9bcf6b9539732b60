-- The window builds, and its answer is told.
use mathlib.Core.List.{[], ◌++◌}
use lib.ListN.{drop, take}
use Rattle.grammar.specs.Lines.{loading}
use Rattle.script.specs.Playing.{extent_of}
use Rattle.script.proofs.Effects.{in_use, load_did}
use Rattle.script.proofs.Outcomes.{load_shows, played, told}
use Rattle.script.proofs.playing.load.Goals as goal

pub slice_bounds-build-end : goal.slice_bounds-build-end
slice_bounds-build-end c = (in_use c.args.nodes c.args.pool.now c.extent.ensures c.unwrap_or-end.ensures c.told-pool).within

pub slice_bounds-build-end-2 : goal.slice_bounds-build-end-2
slice_bounds-build-end-2 c = (in_use c.args.nodes c.args.pool.now c.extent.ensures c.unwrap_or-end.ensures c.told-pool).as_long

pub returns : goal.returns
returns c = λ s h.
    let a = c.args in
    let used = (in_use a.nodes a.pool.now c.extent.ensures c.unwrap_or-end.ensures c.told-pool).is in
    let line = told c.build-built.result [] a.out.now _ c.from.ensures c.tell.ensures.end c.tell.ensures.written in
    rw used
    (played (loading a.load.length (take a.load.count a.words.now)) s a.pool.now a.nodes a.out.now c.build-built.result []
    a.nodes c.tell.result
    (c.build-built.new.pool ++ drop (extent_of a.nodes) a.pool.now) c.tell.new.out
    (load_did s a.pool.now a.nodes a.load.length (take a.load.count a.words.now) c.build-built.result c.build-built.new.pool
    c.told-pool h (rw used at c.build-built.ensures))
    (load_shows a.load.length (take a.load.count a.words.now) s) line)
