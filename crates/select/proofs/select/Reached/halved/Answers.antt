-- A step goes to the upper half where the lower has too few set bits, else it stays in the lower. Assumes nothing.
use borrow.Author.Rules.{rules}
use Rattle.select.proofs.Search.{upper, lower}
use Rattle.select.proofs.select.Reached.halved.Goals as goal

pub returns-then-here-self : goal.returns-then-here-self
returns-then-here-self c = λ w k e f. upper f e (search rules)

pub returns : goal.returns
returns c = λ w k e f. lower f e (search rules)
