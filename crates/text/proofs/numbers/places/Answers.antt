use Rattle.std.proofs.Common.{arith, sym}
use Rattle.text.proofs.Digits.{fitting_is, fitting_here}
use Rattle.text.proofs.numbers.places.Goals as goal

pub returns-in-Some : goal.returns-in-Some
returns-in-Some c =
    let e = c.in-Some.ensures in
    omega (arith, fitting_is c.in-Some.power c.args.number e.bound e.power_le e.next_power_gt)

pub returns-in-None : goal.returns-in-None
returns-in-None c = sym (fitting_here 19 1 c.args.number (omega (arith, c.in-None.ensures.none)))
