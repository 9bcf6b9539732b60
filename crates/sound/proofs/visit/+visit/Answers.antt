-- A visit of the subtree at a number: while more than one level is claimed its node is met and read, its left child is visited and the loop goes on
-- with its right child, so that what is answered from there on is what is answered from the start; in the end a leaf is visited. Assumes nothing.
use native.Mathlib.Omega.{arith}
use mathlib.Core.Path.{sym, ◌∙◌}
use Rattle.sound.proofs.Answers.{never}
use Rattle.sound.specs.Part.{Visited}
use Rattle.sound.proofs.Parts.{onward_more, visited_left, visited_met, visited_no_fork, visited_untrue}
use Rattle.sound.proofs.visit.+visit.Goals as goal
use Rattle.sound.proofs.visit.+visit.Goals.{then-left-lt2, else-left-lt2}

pub returns-then-not-meet : goal.returns-then-not-meet
returns-then-not-meet t c = c.loop-claim.invariant.on _ _ (visited_met c.meet.ensures c.if-not-meet.true)

pub returns-in_default : goal.returns-in_default
returns-in_default t c =
    c.loop-claim.invariant.on _ _
    (visited_no_fork (omega (arith, c.loop-claim-test)) (λ f e a. c.in_default.not-Fork f (c.node_at.ensures ∙ e)))

pub returns-then-not-fork_fits : goal.returns-then-not-fork_fits
returns-then-not-fork_fits t c =
    let read = sym c.node_at.ensures ∙ c.in-Fork.is in
    c.loop-claim.invariant.on _ _ (visited_untrue c.in-Fork.fork read (λ a. never (c.fork_fits.ensures.no a) c.if-not-fork_fits.true))

-- the left child is visited, a leaf or not
pub returns-then-not-stands : goal.returns-then-not-stands
returns-then-not-stands t c =
    let v : Visited c.args.nodes.now c.meet.new.self c.if-left-lt2.met c.left-left.result c.if-left-lt2.stands =
    elim c.if-left-lt2.branch [
      | then-left-lt2 w ↦ rw (w.met-is, w.stands-is) w.visit_leaf-stands.ensures
      | else-left-lt2 w ↦ rw (w.met-is, w.stands-is) w.visit-stands.ensures
    ] in
    let a = c.fork_fits.ensures.yes c.if-not-fork_fits.false in
    c.loop-claim.invariant.on _ _
    (visited_left c.if-not-meet.ensures c.in-Fork.fork (sym c.node_at.ensures ∙ c.in-Fork.is) a c.left-left.ensures c.if-not-stands.true v)

pub loop-claim-preserved : goal.loop-claim-preserved
loop-claim-preserved t c =
    let v : Visited c.args.nodes.now c.meet.new.self c.if-left-lt2.met c.left-left.result c.if-left-lt2.stands =
    elim c.if-left-lt2.branch [
      | then-left-lt2 w ↦ rw (w.met-is, w.stands-is) w.visit_leaf-stands.ensures
      | else-left-lt2 w ↦ rw (w.met-is, w.stands-is) w.visit-stands.ensures
    ] in
    let a = c.fork_fits.ensures.yes c.if-not-fork_fits.false in
    onward_more c.loop-claim.invariant c.if-not-meet.ensures c.in-Fork.fork (sym c.node_at.ensures ∙ c.in-Fork.is) a c.left-left.ensures
    c.right-claim.ensures c.if-not-stands.false v
