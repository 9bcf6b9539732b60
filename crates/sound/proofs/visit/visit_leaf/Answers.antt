-- A visit of a leaf: its node is met and read, and a leaf is held to what is claimed of it. Assumes nothing.
use native.Mathlib.Omega.{arith}
use mathlib.Core.Path.{sym, ◌∙◌}
use Rattle.sound.proofs.Parts.{visited_leaf, visited_met, visited_no_leaf}
use Rattle.sound.proofs.visit.visit_leaf.Goals as goal

pub returns-then-not-meet : goal.returns-then-not-meet
returns-then-not-meet c = visited_met c.meet.ensures c.if-not-meet.true

pub returns-in_default : goal.returns-in_default
returns-in_default c = visited_no_leaf (omega (arith, c.requires)) (λ x e f. c.in_default.not-Leaf x (c.node_at.ensures ∙ e))

pub returns : goal.returns
returns c = visited_leaf c.if-not-meet.ensures c.in-Leaf.leaf (sym c.node_at.ensures ∙ c.in-Leaf.is) c.leaf_fits.ensures
