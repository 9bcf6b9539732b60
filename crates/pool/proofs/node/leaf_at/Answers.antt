-- The leaf that stands at n is in its words. Assumes nothing.
use mathlib.Core.Path.{ap, sym, ◌∙◌}
use Rattle.pool.specs.Node.{leaf_in, leaf_words}
use Rattle.pool.proofs.Cells.{leaf_says}
use Rattle.pool.proofs.node.leaf_at.Goals as goal

pub cell_at-requires : goal.cell_at-requires
cell_at-requires c = let p = c.requires in (leaf_says c.args.nodes.now c.args.n p.0 p.1).0

pub returns : goal.returns
returns c =
    let p = c.requires in
    c.into.ensures ∙ ap leaf_words (c.cell_at.ensures ∙ (leaf_says c.args.nodes.now c.args.n p.0 p.1).1)
    ∙ ap leaf_in (sym p.1)
