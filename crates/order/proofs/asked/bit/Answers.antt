-- A word is 0, 1 or no bit. Assumes nothing.
use borrow.Author.Rules.{rules}
use mathlib.Core.Path.{refl}
use Rattle.order.proofs.Asking.{bit_clear, bit_set, no_bit}
use Rattle.order.proofs.asked.bit.Goals as goal

pub returns-in-0 : goal.returns-in-0
returns-in-0 c = λ ask. bit_clear _ ask c.in-0.is

pub returns-in-1 : goal.returns-in-1
returns-in-1 c = λ ask. bit_set _ ask c.in-1.is

pub returns-in_default : goal.returns-in_default
returns-in_default c = (refl, λ ask. no_bit _ ask (search rules) (search rules))
