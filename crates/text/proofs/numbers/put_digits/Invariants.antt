-- With the digits that are left put over what stands there now, it is all as it is to be.
use Rattle.text.proofs.Stepwise.{ToPut}
use Rattle.text.proofs.numbers.put_digits.Given as goal

abbrev pub invariant-loop-i : goal.invariant-loop-i
invariant-loop-i l = ToPut l.fn.base l.fn.at l.fn.count l.fn.number l.fn.out l.out l.i l.rest
