-- The lines so far have been played, and the measure is the bytes that are left.
use Rattle.std.proofs.Common.{◌-◌, length}
use Rattle.orders.specs.Loop.{PlayedTo}
use Rattle.orders.proofs.play_all.Given as goal

abbrev pub invariant-loop-at : goal.invariant-loop-at
invariant-loop-at g l = PlayedTo l.input l.initial.pool l.at l.nodes l.pool

abbrev pub decreases-loop-at : goal.decreases-loop-at
decreases-loop-at g l = length l.input - l.at
