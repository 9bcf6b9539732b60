-- A leaf that ends at its marks has as many bits that are set as strikes. Assumes nothing.
use native.Mathlib.Omega.{arith}
use borrow.Author.Rules.{rules}
use mathlib.Core.Path.{sym, ◌∙◌}
use Rattle.sound.proofs.Answers.{never, says_same}
use Rattle.sound.proofs.Padding.{held_ends}
use Rattle.sound.proofs.visit.leaf_fits.Goals as goal
use Rattle.sound.proofs.visit.leaf_fits.Goals.{then-claim-le-LEAF_MOST, else-claim-le-LEAF_MOST}

pub returns-then-ends_at : goal.returns-then-ends_at
returns-then-ends_at c =
    elim c.if-claim-le-LEAF_MOST.branch [
      | then-claim-le-LEAF_MOST w ↦
          let t = w.if-claim-le-LEAF_MOST.true in
          let ends = w.ends_at.ensures.yes (sym w.value-is ∙ c.if-ends_at.true) in
          let all = held_ends c.args.leaf c.args.claim.total (omega (arith, t.2)) ends in
          says_same c.count_before.result c.args.claim.ones
          (λ e. record { low = t.0; enough = t.1; most = t.2; ends = ends; ones = all ∙ sym c.count_before.ensures ∙ e })
          (λ f. c.count_before.ensures ∙ sym all ∙ f.ones)
      | else-claim-le-LEAF_MOST w ↦ never c.if-ends_at.true (search rules)
    ]
