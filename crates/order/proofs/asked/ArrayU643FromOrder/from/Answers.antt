-- A bit becomes a word. Assumes nothing.
use mathlib.Core.Path.{refl}
use Rattle.order.proofs.Asking.{bit_word}
use Rattle.order.proofs.asked.ArrayU643FromOrder.from.Goals as goal

pub returns-in-Insert : goal.returns-in-Insert
returns-in-Insert c = rw (c.in-Insert.is, bit_word c.in-Insert.bit) refl

pub returns-in-Rank : goal.returns-in-Rank
returns-in-Rank c = rw (c.in-Rank.is, bit_word c.in-Rank.bit) refl

pub returns-in-Select : goal.returns-in-Select
returns-in-Select c = rw (c.in-Select.is, bit_word c.in-Select.bit) refl
