-- Each pass goes down to the right child of a fork; a leaf ends the edge. Where there is neither, or the fork cannot be true, no tree stands at the
-- root. Assumes nothing.
use native.Mathlib.Omega.{arith}
use mathlib.Core.Path.{sym, ◌∙◌}
use mathlib.Core.Logic.{⊎_elim}
use Rattle.sound.proofs.Answers.{never}
use Rattle.sound.proofs.Edges.{down_more, rank_most, told_broken, told_free, told_leaf, told_long, told_untrue}
use Rattle.sound.proofs.edge.right_edge.Goals as goal

pub returns-then-not-fork_fits : goal.returns-then-not-fork_fits
returns-then-not-fork_fits c =
    told_untrue c.loop-left.invariant c.in-Fork.fork (sym c.node_at.ensures ∙ c.in-Fork.is)
    (λ a. never (c.fork_fits.ensures.no a) c.if-not-fork_fits.true)

pub loop-left-preserved : goal.loop-left-preserved
loop-left-preserved c =
    down_more c.loop-left.invariant c.in-Fork.fork (sym c.node_at.ensures ∙ c.in-Fork.is) (c.fork_fits.ensures.yes c.if-not-fork_fits.false)
    c.below-left.ensures

pub overflow_add-result : goal.overflow_add-result
overflow_add-result c =
    omega (arith, rank_most _ _ _ c.count_before.ensures, c.loop-left.invariant.fits, c.ranges.length.fits)

pub returns-in-Leaf : goal.returns-in-Leaf
returns-in-Leaf c =
    told_leaf c.loop-left.invariant c.in-Leaf.leaf (sym c.node_at.ensures ∙ c.in-Leaf.is)
    (omega (arith, c.loop-left-test)) _ (omega (arith, c.count_before.ensures)) (omega (arith, c.loop-left.invariant.few))

pub returns-in-Free : goal.returns-in-Free
returns-in-Free c =
    ⊎_elim
    (λ s. told_free c.loop-left.invariant s.0 (sym c.node_at.ensures ∙ s.1))
    (λ s. told_broken c.loop-left.invariant (sym c.node_at.ensures ∙ s))
    c.in-Free.is

pub returns : goal.returns
returns c = told_long c.loop-left.invariant (omega (arith, c.loop-left-test))
