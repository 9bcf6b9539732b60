-- Six stores within the node's own words, which are within the list. Assumes nothing.
use native.Mathlib.Omega.{arith}
use borrow.Author.Tests.{lt-ltb}
use mathlib.Core.Path.{sym}
use Rattle.pool.specs.Node.{nodes_in, put}
use Rattle.pool.proofs.Cells.{put_out}
use Rattle.pool.proofs.node.put_cell.Goals as goal

pub returns-then-n-node_count : goal.returns-then-n-node_count
unfolding put
returns-then-n-node_count c =
    rw (put, lt-ltb c.args.n (nodes_in c.args.nodes.now) (omega arith))

pub returns-else-n-node_count : goal.returns-else-n-node_count
returns-else-n-node_count c =
    sym (put_out c.args.nodes.now c.args.n c.args.cell (omega arith))
