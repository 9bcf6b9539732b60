-- A number in range has its six words' node. Assumes nothing.
use native.Mathlib.Omega.{arith}
use mathlib.Core.Path.{sym, ap, ◌∙◌}
use Rattle.pool.specs.Node.{node_of}
use Rattle.pool.proofs.Cells.{node_in, node_out}
use Rattle.pool.proofs.node.node_at.Goals as goal

pub returns-then-n-node_count : goal.returns-then-n-node_count
returns-then-n-node_count c =
    c.into.ensures ∙ ap node_of c.cell_at.ensures ∙ sym (node_in c.args.nodes.now c.args.n (omega arith))

pub returns : goal.returns
returns c =
    sym (node_out c.args.nodes.now c.args.n (omega arith))
