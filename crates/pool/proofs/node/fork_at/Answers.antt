-- The fork that stands at n is in its words. Assumes nothing.
use mathlib.Core.Path.{ap, sym, ◌∙◌}
use Rattle.pool.specs.Node.{fork_in, fork_words}
use Rattle.pool.proofs.Cells.{fork_says}
use Rattle.pool.proofs.node.fork_at.Goals as goal

pub cell_at-requires : goal.cell_at-requires
cell_at-requires c = let p = c.requires in (fork_says c.args.nodes.now c.args.n p.0 p.1).0

pub returns : goal.returns
returns c =
    let p = c.requires in
    c.into.ensures ∙ ap fork_words (c.cell_at.ensures ∙ (fork_says c.args.nodes.now c.args.n p.0 p.1).1)
    ∙ ap fork_in (sym p.1)
