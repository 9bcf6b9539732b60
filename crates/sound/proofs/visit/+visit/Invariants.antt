use Rattle.sound.proofs.Parts.{Onward}
use Rattle.sound.proofs.visit.+visit.Given as goal

-- the levels left
abbrev pub decreases-visit : goal.decreases-visit
decreases-visit l = l.whole.levels

-- how far the loop has come
abbrev pub invariant-loop-claim : goal.invariant-loop-claim
invariant-loop-claim l = Onward l.nodes l.initial.met l.fn.whole l.met l.claim

abbrev pub decreases-loop-claim : goal.decreases-loop-claim
decreases-loop-claim l = l.claim.levels
