use Prim.Native.Nat.{◌-◌}
use Rattle.pool.specs.Node.{nodes_in}
use Rattle.sound.proofs.Chains.{Passed}
use Rattle.sound.proofs.links.chain_sound.Given as goal

abbrev pub invariant-loop : goal.invariant-loop
invariant-loop l = Passed l.nodes (nodes_in l.nodes) l.fn.chain.first l.fn.chain.count l.n (l.end - l.counter)
