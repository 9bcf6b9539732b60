-- What the loop keeps.
use Rattle.std.specs.Prelude.{map}
use Rattle.model.specs.Pool.{Pool}
use Rattle.order.specs.Asked.{asked_by}
use Rattle.window.specs.Layout.{Stands}
use Rattle.run.proofs.OneByOne.{Reached}
use Rattle.run.proofs.running.serve_all.Given as goal

abbrev pub invariant-loop-i : goal.invariant-loop-i
invariant-loop-i l =
    (p : Pool) → Stands l.initial.pool l.n p → Reached l.n (map asked_by l.orders) l.initial.out p l.i l.pool l.out
