-- The head of the chain has moved exactly where two numbers were freed. Assumes nothing.
use Rattle.shrink.proofs.Chains.{one_removed, two_freed}
use Rattle.shrink.proofs.removing.remove.Goals as goal

pub returns-then-head-held : goal.returns-then-head-held
returns-then-head-held c = λ b. one_removed b (c.remove_below.ensures b.place) c.if-head-held.true

pub returns : goal.returns
returns c = λ b. two_freed b (c.remove_below.ensures b.place) c.if-head-held.false
