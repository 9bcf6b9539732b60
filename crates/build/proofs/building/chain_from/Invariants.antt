-- What the loop keeps.
use Rattle.build.proofs.FreeChain.{Freed}
use Rattle.build.proofs.building.chain_from.Given as goal

abbrev pub invariant-loop-n : goal.invariant-loop-n
invariant-loop-n l = Freed l.initial.nodes l.nodes l.first l.n
