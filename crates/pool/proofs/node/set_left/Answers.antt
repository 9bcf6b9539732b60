-- Two stores within the fork's own words, which are within the list. Assumes nothing.
use Prim.Native.Nat.{ℕ, ◌<◌}
use native.Mathlib.Omega.{arith}
use borrow.Author.Rules.{rules}
use mathlib.Core.Path.{◌≡◌}
use mathlib.Core.List.{List}
use lib.ListN.{length-set}
use Rattle.pool.specs.Node.{node_at, nodes_in}
use Rattle.pool.specs.declared.node.Fork.{Fork}
use Rattle.pool.specs.declared.node.Node.{Node}
use Rattle.pool.proofs.Cells.{fork_says, put_left}
use Rattle.pool.proofs.node.set_left.Goals as goal

-- the fork's number is one of a node
there : (w : List ℕ) (n : ℕ) → (f : Fork) × (node_at w n ≡ Node.Fork f) → n < nodes_in w
there w n p = (fork_says w n p.0 p.1).0

pub returns : goal.returns
returns c = λ f e. put_left c.args.nodes.now c.args.n f c.args.total c.args.ones e

pub overflow_mul-at : goal.overflow_mul-at
overflow_mul-at c = let h = there c.args.nodes.now c.args.n c.requires in search rules

pub overflow_add-nodes : goal.overflow_add-nodes
overflow_add-nodes c = let h = there c.args.nodes.now c.args.n c.requires in search rules

pub offset_bounds-nodes-at : goal.offset_bounds-nodes-at
offset_bounds-nodes-at c = let h = there c.args.nodes.now c.args.n c.requires in search rules

pub bounds-nodes-at : goal.bounds-nodes-at
bounds-nodes-at c = let h = there c.args.nodes.now c.args.n c.requires in search rules

pub overflow_add-nodes-2 : goal.overflow_add-nodes-2
overflow_add-nodes-2 c = let h = there c.args.nodes.now c.args.n c.requires in search rules

pub offset_bounds-nodes-at-2 : goal.offset_bounds-nodes-at-2
offset_bounds-nodes-at-2 c = let h = there c.args.nodes.now c.args.n c.requires in search rules

pub bounds-nodes-at-2 : goal.bounds-nodes-at-2
bounds-nodes-at-2 c = let h = there c.args.nodes.now c.args.n c.requires in simp length-set (omega arith)
