-- A number is 0, 1 or no bit.
use Rattle.std.proofs.Common.{rules}
use Rattle.grammar.specs.Lines.{order_with}
use Rattle.grammar.proofs.Asking.{no_bit}
use Rattle.grammar.proofs.fields.bit.Goals as goal

pub returns-in-0 : goal.returns-in-0
unfolding order_with
returns-in-0 c = λ ask. rw c.in-0.is

pub returns-in-1 : goal.returns-in-1
unfolding order_with
returns-in-1 c = λ ask. rw c.in-1.is

pub returns-in_default : goal.returns-in_default
returns-in_default c = λ ask. no_bit _ ask (search rules) (search rules)
