-- The word beside a fork's children tells which of the two it is; what stands in the other words is then known. Assumes nothing.
use Prim.Native.Nat.{ℕ}
use mathlib.Core.Path.{◌≡◌, ap, ◌∙◌}
use mathlib.Core.List.{List}
use native.Mathlib.Omega.{arith}
use Rattle.pool.specs.declared.node.Cell.{Cell}
use Rattle.pool.specs.declared.node.Node.TheVariants.{Leaf as leaf, Fork as fork}
use Rattle.pool.specs.Node.{LeafOrFork, cell_at, node_at}
use Rattle.pool.proofs.Cells.{cell_of, a_fork, a_leaf, of_tree, tree_node_cell, tree_node_in}
use Rattle.pool.proofs.node.leaf_or_fork.Goals as goal

-- the six words that are read are the node's own
own : (w : List ℕ) (n : ℕ) → LeafOrFork (node_at w n) → {x : Cell} → x ≡ cell_at w n → x ≡ cell_of (node_at w n)
own w n h e = e ∙ tree_node_cell w n (of_tree (node_at w n) h)

pub cell_at-cell-requires : goal.cell_at-cell-requires
cell_at-cell-requires c =
    let w = c.args.nodes.now in
    tree_node_in w c.args.n (of_tree (node_at w c.args.n) c.requires)

pub returns-then-cell-eq0 : goal.returns-then-cell-eq0
returns-then-cell-eq0 c =
    let w = c.args.nodes.now in
    ap leaf c.into.ensures
    ∙ a_leaf c.cell_at-cell.result (node_at w c.args.n) c.requires (own w c.args.n c.requires c.cell_at-cell.ensures) c.if-cell-eq0.true

pub returns : goal.returns
returns c =
    let w = c.args.nodes.now in
    ap fork c.into-2.ensures
    ∙ a_fork c.cell_at-cell.result (node_at w c.args.n) c.requires (own w c.args.n c.requires c.cell_at-cell.ensures) (omega arith)
