-- The fork at n is the one that loses the mark. Assumes nothing.
use native.Mathlib.Omega.{arith}
use mathlib.Core.Bool.{◌&&◌}
use mathlib.Core.Path.{ap}
use Rattle.pool.specs.Node.{fork_in}
use Rattle.descent.proofs.Digits.{byte_digit}
use Rattle.shrink.proofs.mending.uncount.Goals as goal

pub less_left-requires : goal.less_left-requires
less_left-requires c =
    let p = c.requires in
    let total = byte_digit c.args.left in
    let ones = byte_digit (c.args.left && c.args.bit) in
    (p.f, p.says, omega (arith, p.total), omega (arith, p.ones))

pub returns : goal.returns
returns c =
    let p = c.requires in
    let a = c.args in
    rw (ap fork_in p.says, ← byte_digit a.left, ← byte_digit (a.left && a.bit)) (c.less_left.ensures p.f p.says)
