-- A leaf's sixth word is 0, and a fork's is its balance. Assumes nothing.
use mathlib.Core.Path.{ap, ◌∙◌}
use Rattle.pool.specs.Node.{node_at}
use Rattle.pool.specs.declared.node.Cell.{Cell}
use Rattle.pool.proofs.Cells.{a_balance, tree_node_cell, tree_node_in}
use Rattle.pool.proofs.node.balance_at.Goals as goal

pub cell_at-requires : goal.cell_at-requires
cell_at-requires c = tree_node_in c.args.nodes.now c.args.n c.requires

pub returns : goal.returns
returns c =
    let w = c.args.nodes.now in
    ap (λ (x : Cell). x.sixth) (c.cell_at.ensures ∙ tree_node_cell w c.args.n c.requires) ∙ a_balance (node_at w c.args.n) c.requires
