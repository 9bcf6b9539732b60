-- What building a tree asks of the node words and of the words that it is built from, and what it leaves.
use Rattle.std.specs.Prelude.{ℕ, ◌-◌, ◌*◌, ◌≤◌, ◌≡◌, List, length}
use Rattle.model.specs.Build.{leaf_built, leaf_count}
use Rattle.model.specs.Limits.{most_nodes}
use Rattle.model.specs.Pool.{Pool}
use Rattle.model.specs.Tree.{top, size}
use Rattle.pool.specs.Node.{node_words, nodes_in}
use Rattle.pool.specs.Layout.{Laid, first_of}
use Rattle.tree.specs.declared.root.Held.{Held}

-- so many marks of these words can be built into these node words: whole nodes, not too many of them, and enough
pub record Room (w words : List ℕ) (total : ℕ) : Type 0 where
  pub whole : length w ≡ nodes_in w * node_words
  pub most : nodes_in w ≤ most_nodes
  pub given : total ≤ leaf_built * length words
  pub enough : 2 * leaf_count total - 1 ≤ nodes_in w

-- the pool that the model builds stands in the words after, and the root, the length and the chain are its own
pub record BuiltAs (w' : List ℕ) (n : ℕ) (r : Held) (p : Pool) : Type 0 where
  pub laid : Laid w' n p
  pub root : r.tree.node ≡ top p.tree
  pub total : r.tree.length ≡ size p.tree
  pub first : r.chain.first ≡ first_of n p.free
  pub count : r.chain.count ≡ length p.free
