-- The insert below does it; its head tells whether a leaf was split. Assumes nothing.
use Rattle.grow.proofs.HandedBack.{chain_stays}
use Rattle.grow.proofs.inserting.insert.Goals as goal

pub returns-then-head-held : goal.returns-then-head-held
returns-then-head-held c = λ b. chain_stays _ b (c.insert_below.ensures b.place) c.if-head-held.true
