-- Each pass passes one link. Where no pass can, no chain stands in the words. Assumes nothing.
use native.Mathlib.Omega.{arith}
use mathlib.Core.Path.{sym, ◌∙◌}
use Rattle.sound.proofs.Chains.{passed_more, passed_other, passed_all}
use Rattle.sound.proofs.links.chain_sound.Goals as goal

pub returns-in_default : goal.returns-in_default
returns-in_default c =
    passed_other c.loop.invariant (λ next e. c.in_default.not-Free next (c.node_at.ensures ∙ e)) (omega (arith, c.loop-test))

pub loop-preserved : goal.loop-preserved
loop-preserved c =
    passed_more c.loop.invariant (sym c.node_at.ensures ∙ c.in-Free.is) (omega (arith, c.loop-test)) (omega (arith, c.loop-test))

pub returns : goal.returns
returns c = rw c.node_count.ensures (passed_all c.loop.invariant (omega (arith, c.loop-test)))
