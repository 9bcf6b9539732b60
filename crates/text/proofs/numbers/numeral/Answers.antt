use Rattle.std.proofs.Common.{arith, ◌+◌, ◌*◌, ◌^◌, ◌<◌, ◌∙◌}
use Rattle.text.proofs.Stepwise.{read_none, read_more, read_not, read_fits, read_all}
use Rattle.text.proofs.numbers.numeral.Goals as goal

pub loop-byte-init : goal.loop-byte-init
loop-byte-init c = read_none _ _

pub returns-in_err-worth : goal.returns-in_err-worth
returns-in_err-worth c =
    c.from_residual.ensures ∙ read_not _ c.loop-byte.invariant c.loop-byte-test.true c.in_err-worth.ensures (omega (arith, c.requires.1))

pub returns-then-base-worth : goal.returns-then-base-worth
returns-then-base-worth c = read_not _ c.loop-byte.invariant c.loop-byte-test.true c.in_ok-worth.ensures.0 c.if-base-worth.true

-- the next value is a word
no_wrap : (c : goal.Else-base-worth) → c.loop-byte.value * c.args.base + c.in_ok-worth.worth < 2 ^ 64
no_wrap c = read_fits _ c.loop-byte.invariant c.loop-byte-test.true c.in_ok-worth.ensures.0 c.if-base-worth.false c.requires.2

pub overflow_mul-value : goal.overflow_mul-value
overflow_mul-value c = omega (arith, no_wrap c)

pub overflow_add-value : goal.overflow_add-value
overflow_add-value c = omega (arith, no_wrap c)

pub loop-byte-preserved : goal.loop-byte-preserved
loop-byte-preserved c = read_more _ c.loop-byte.invariant c.loop-byte-test.true c.in_ok-worth.ensures.0 c.if-base-worth.false

pub returns : goal.returns
returns c = read_all _ c.loop-byte.invariant c.loop-byte-test.false
