-- The free node that stands at n holds the next number. Assumes nothing.
use mathlib.Core.Path.{ap, sym, ◌∙◌}
use Rattle.pool.specs.Node.{next_in, nodes_in}
use Rattle.pool.specs.declared.node.Cell.{Cell}
use Rattle.pool.proofs.Cells.{free_says}
use Rattle.pool.proofs.node.next_free.Goals as goal

pub cell_at-requires : goal.cell_at-requires
cell_at-requires c = let p = c.requires in (free_says c.args.nodes.now c.args.n p.0 p.1).0

pub returns : goal.returns
returns c =
    let p = c.requires in
    let w = c.args.nodes.now in
    ap (λ (x : Cell). x.second) (c.cell_at.ensures ∙ (free_says w c.args.n p.0 p.1).1) ∙ ap (next_in (nodes_in w)) (sym p.1)
