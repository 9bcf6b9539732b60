-- The right edge tells what is claimed of the tree, the tree is visited, then the chain is followed; between them they have every node. Assumes
-- nothing.
use native.Mathlib.Omega.{arith}
use borrow.Author.Rules.{rules}
use Rattle.sound.proofs.Pools.{judged_chain, judged_edgeless, judged_long, judged_unseen, seen}
use Rattle.sound.proofs.judge.sound.Goals as goal

pub returns-in_default : goal.returns-in_default
returns-in_default c = judged_long c.requires.1 (omega (arith, c.in_default.ensures, c.node_count.ensures))

pub returns-in_default-right_edge : goal.returns-in_default-right_edge
returns-in_default-right_edge c = judged_edgeless c.requires.1 c.in_default-right_edge.ensures

pub returns-then-met-eq0 : goal.returns-then-met-eq0
returns-then-met-eq0 c =
    judged_chain
    (seen c.requires c.node_count.ensures c.in-Some.ensures c.in-Some-right_edge.ensures c.least_of.ensures c.none-met.ensures c.visit.ensures)
    c.if-met-eq0.true.0 c.if-met-eq0.true.1 c.chain_sound.ensures

pub returns-else-met-eq0 : goal.returns-else-met-eq0
returns-else-met-eq0 c =
    judged_unseen
    (seen c.requires c.node_count.ensures c.in-Some.ensures c.in-Some-right_edge.ensures c.least_of.ensures c.none-met.ensures c.visit.ensures)
    c.if-met-eq0.either (search rules)
