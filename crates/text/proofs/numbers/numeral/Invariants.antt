-- The bytes passed are digits of the base, and the value is what they make.
use Rattle.text.proofs.Stepwise.{Read}
use Rattle.text.proofs.numbers.numeral.Given as goal

abbrev pub invariant-loop-byte : goal.invariant-loop-byte
invariant-loop-byte l = Read l.fn.base l.field l.byte-index l.value
