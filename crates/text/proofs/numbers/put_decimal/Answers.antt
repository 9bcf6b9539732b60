-- A number has at most 20 digits.
use Rattle.std.proofs.Common.{arith, ap, ◌+◌, ℕ}
use Rattle.text.specs.Text.{decimal_text}
use Rattle.text.proofs.Putting.{all_places, decimal_length}
use Rattle.text.proofs.numbers.put_decimal.Goals as goal

pub put_digits-requires : goal.put_digits-requires
put_digits-requires c = omega (arith, all_places _ c.places-count.ensures, decimal_length c.args.number)

pub overflow_add-result : goal.overflow_add-result
overflow_add-result c = omega (arith, all_places _ c.places-count.ensures, decimal_length c.args.number)

pub returns-clause-end : goal.returns-clause-end
returns-clause-end c = ap (λ (n : ℕ). c.args.at + n) (all_places _ c.places-count.ensures)

pub returns-clause-written : goal.returns-clause-written
unfolding decimal_text
returns-clause-written c = rw c.places-count.ensures at c.put_digits.ensures
