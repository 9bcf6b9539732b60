-- Each pass serves one order and writes its answer. The invariant: from the pool that stood at the start, so many orders have been served.
-- Assumes nothing.
use native.Mathlib.Omega.{arith}
use mathlib.Core.Path.{◌≡◌, sym, ◌∙◌}
use lib.ListN.{length}
use Rattle.std.proofs.lemmas.List.{length-map}
use Rattle.order.specs.Asked.{asked_by}
use Rattle.run.proofs.OneByOne.{next_order, reached_more, reached_all}
use Rattle.run.proofs.running.serve_all.Goals as goal

pub loop-i-preserved : goal.loop-i-preserved
loop-i-preserved c = λ p s.
    let r = c.loop-i.invariant p s in
    reached_more r (next_order c.args.orders.now c.loop-i.i c.loop-i-test.true) (omega (arith, c.requires.2))
    (c.served-answer.ensures r.pool r.stands) c.from-words.ensures.0 c.from-words.ensures.1

pub returns : goal.returns
returns c = λ p s.
    let all : c.loop-i.i ≡ length c.args.orders.now = omega arith in
    rw (← all) (reached_all (c.loop-i.invariant p s) (all ∙ sym (length-map c.args.orders.now asked_by)))
