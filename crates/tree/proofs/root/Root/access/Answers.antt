-- The mark is read off the leaf that the place leads to. Assumes nothing.
use native.Mathlib.Omega.{arith}
use mathlib.Core.Path.{ap, ◌∙◌}
use Rattle.model.specs.Marks.{access}
use Rattle.bits.specs.Leaf.{bits_of}
use Rattle.bits.specs.declared.leaf.Leaf.{Leaf}
use Rattle.bits.proofs.Held.{access_held}
use Rattle.tree.proofs.root.Root.access.Goals as goal

pub mark_at-requires : goal.mark_at-requires
mark_at-requires c =
    let q = c.reach-spot.ensures c.requires.0 in
    omega (arith, q.within, q.small)

pub returns : goal.returns
returns c = λ s.
    let spot = c.reach-spot in
    let q = spot.ensures s in
    c.mark_at.ensures ∙ ap (λ (x : Leaf). access spot.result.at (bits_of x)) q.leaf
    ∙ access_held _ spot.result.at (omega (arith, q.small)) ∙ q.mark
