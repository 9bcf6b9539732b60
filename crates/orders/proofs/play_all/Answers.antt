-- Each line goes on in the input, from the place and with the nodes that the one before it left.
use Rattle.orders.specs.Loop.{begun, line}
use Rattle.orders.proofs.play_all.Goals as goal

pub loop-at-init : goal.loop-at-init
loop-at-init g c = begun

-- it was not written: this line was the last
pub returns-in_err-write_all : goal.returns-in_err-write_all
returns-in_err-write_all g c =
    (c.play-next.result.at, c.play-next.result.nodes, line c.loop-at.invariant c.loop-at-test.true c.play-next.ensures.played)

pub loop-at-preserved : goal.loop-at-preserved
loop-at-preserved g c = line c.loop-at.invariant c.loop-at-test.true c.play-next.ensures.played
