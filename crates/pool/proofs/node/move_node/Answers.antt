-- The words of the one number are put at the other. Assumes nothing.
use mathlib.Core.Path.{ap, ◌∙◌}
use Rattle.pool.specs.Node.{node_at, put}
use Rattle.pool.proofs.Cells.{put_words, tree_node_cell, tree_node_in}
use Rattle.pool.proofs.node.move_node.Goals as goal

pub cell_at-requires : goal.cell_at-requires
cell_at-requires c = tree_node_in c.args.nodes.now c.args.from c.requires

pub returns : goal.returns
returns c =
    let w = c.args.nodes.now in
    c.put_cell.ensures
    ∙ ap (put w c.args.to) (c.cell_at.ensures ∙ tree_node_cell w c.args.from c.requires)
    ∙ put_words w c.args.to (node_at w c.args.from) c.requires
