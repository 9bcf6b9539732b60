-- The strikes before the place; the quiet frames are the others before it. Assumes nothing.
use native.Mathlib.Omega.{arith}
use mathlib.Core.Path.{ap, ◌∙◌}
use Rattle.tree.specs.Query.{of_kind}
use Rattle.tree.proofs.Questions.{kind_rank, rank_within}
use Rattle.tree.proofs.root.Root.rank.Goals as goal

pub wanted-requires : goal.wanted-requires
wanted-requires c =
    let s = c.requires.0 in
    omega (arith, c.strikes.ensures s, rank_within s.tree c.args.end)

pub returns : goal.returns
returns c = λ s.
    c.wanted.ensures ∙ ap (of_kind c.args.bit c.args.end) (c.strikes.ensures s)
    ∙ kind_rank s.tree c.args.bit c.args.end (omega (arith, c.requires.1, s.total))
