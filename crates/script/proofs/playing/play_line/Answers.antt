-- What the line was read as is played.
use native.Mathlib.Omega.{arith}
use mathlib.Core.List.{[]}
use Rattle.std.specs.Prelude.{Err}
use Rattle.order.specs.declared.answer.Refusal.TheVariants.{Malformed}
use Rattle.script.proofs.Outcomes.{dump_read, load_read, malformed_played, malformed_read, order_read, pool_read, told}
use Rattle.script.proofs.playing.play_line.Goals as goal

pub load-requires : goal.load-requires
load-requires c =
    let l = load_read c.args.line.now c.in-Some-Load.asked c.read.new.words (rw (c.in-Some-Load.is, c.in-Some-Load.field-0-is) at c.read.ensures) in
    l.0

pub returns-in-None : goal.returns-in-None
returns-in-None c = λ s h.
    let a = c.args in
    let line = told (Err Malformed) [] a.out.now _ c.from.ensures c.tell.ensures.end c.tell.ensures.written in
    rw (malformed_read a.line.now c.read.new.words (rw c.in-None.is at c.read.ensures))
    (malformed_played s a.pool.now a.nodes.now a.out.now c.tell.result c.tell.new.out h line)

pub returns-in-Some-Pool : goal.returns-in-Some-Pool
returns-in-Some-Pool c = λ s h.
    rw (pool_read c.args.line.now _ c.read.new.words (rw (c.in-Some-Pool.is, c.in-Some-Pool.field-0-is) at c.read.ensures)) (c.begin.ensures s h)

pub returns-in-Some-Load : goal.returns-in-Some-Load
returns-in-Some-Load c = λ s h.
    rw (load_read c.args.line.now _ c.read.new.words (rw (c.in-Some-Load.is, c.in-Some-Load.field-0-is) at c.read.ensures)).1 (c.load.ensures s h)

pub returns-in-Some-Order : goal.returns-in-Some-Order
returns-in-Some-Order c = λ s h.
    rw (order_read c.args.line.now _ c.read.new.words (rw (c.in-Some-Order.is, c.in-Some-Order.field-0-is) at c.read.ensures)) (c.serve.ensures s h)

pub returns-in-Some-Dump : goal.returns-in-Some-Dump
returns-in-Some-Dump c = λ s h.
    rw (dump_read c.args.line.now c.read.new.words (rw (c.in-Some-Dump.is, c.in-Some-Dump.field-0-is) at c.read.ensures)) (c.dump.ensures s h)
