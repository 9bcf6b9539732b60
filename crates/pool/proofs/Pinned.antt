-- Every public contract determines its result: two results that it allows for the same arguments are equal, and for a function that writes the
-- words so are the words afterwards. `Post` takes the lifetimes, the arguments, the result and what the call leaves behind references.
use Prim.Native.Nat.{ℕ}
use native.Mathlib.Omega.{arith}
use mathlib.Core.Path.{◌≡◌, sym, ◌∙◌}
use denote.Param.Laws.{Laws}
use denote.RattleType.{RattleType}
use mir.Syntax.{Dict}
use Rattle.model.specs.Contract.{Pinned}
use Rattle.pool.proofs.node.next_free.Reads as next_free
use Rattle.pool.specs.Node.{as_node}
use Rattle.pool.specs.declared.node.TreeNode.{TreeNode}
use Rattle.pool.specs.declared.node.TreeNode.TheVariants.{Leaf, Fork}
use Rattle.pool.proofs.node.balance_at.Reads as balance_at
use Rattle.pool.proofs.node.fork_at.Reads as fork_at
use Rattle.pool.proofs.node.leaf_at.Reads as leaf_at
use Rattle.pool.proofs.node.leaf_or_fork.Reads as leaf_or_fork
use Rattle.pool.proofs.node.less_left.Reads as less_left
use Rattle.pool.proofs.node.move_node.Reads as move_node
use Rattle.pool.proofs.node.node_at.Reads as node_at
use Rattle.pool.proofs.node.node_count.Reads as node_count
use Rattle.pool.proofs.node.ForkFromCell.from.Reads as fork_from
use Rattle.pool.proofs.node.ForkWords.words.Reads as fork_words
use Rattle.pool.proofs.node.FreeWords.words.Reads as free_words
use Rattle.pool.proofs.node.LeafFromCell.from.Reads as leaf_from
use Rattle.pool.proofs.node.LeafWords.words.Reads as leaf_words
use Rattle.pool.proofs.node.NodeFromCell.from.Reads as node_from
use Rattle.pool.proofs.node.set_left.Reads as set_left
use Rattle.pool.proofs.node.set_node.Reads as set_node
use Rattle.pool.specs.declared.node.Words as Words

-- two tree nodes that are one node
one_node : (x y : TreeNode) → as_node x ≡ as_node y → x ≡ y
one_node (Leaf l) (Leaf m) e = cc
one_node (Fork f) (Fork g) e = cc
one_node (Leaf l) (Fork g) e = let never : ◌≡◌ {A = ℕ} 0 1 = cc in absurd (omega arith)
one_node (Fork f) (Leaf m) e = let never : ◌≡◌ {A = ℕ} 0 1 = cc in absurd (omega arith)

pub node_count_pinned : Pinned node_count.Post
node_count_pinned κs a r r' w w' p q = p ∙ sym q

pub node_at_pinned : Pinned node_at.Post
node_at_pinned κs a r r' w w' p q = p ∙ sym q

pub leaf_or_fork_pinned : Pinned leaf_or_fork.Post
leaf_or_fork_pinned κs a r r' w w' p q = one_node r r' (p ∙ sym q)

pub leaf_at_pinned : Pinned leaf_at.Post
leaf_at_pinned κs a r r' w w' p q = p ∙ sym q

pub fork_at_pinned : Pinned fork_at.Post
fork_at_pinned κs a r r' w w' p q = p ∙ sym q

pub balance_at_pinned : Pinned balance_at.Post
balance_at_pinned κs a r r' w w' p q = p ∙ sym q

pub next_free_pinned : Pinned next_free.Post
next_free_pinned κs a r r' w w' p q = p ∙ sym q

pub free_words_pinned : Pinned free_words.Post
free_words_pinned κs a r r' w w' p q = p ∙ sym q

pub leaf_words_pinned : Pinned leaf_words.Post
leaf_words_pinned κs a r r' w w' p q = p ∙ sym q

pub fork_words_pinned : Pinned fork_words.Post
fork_words_pinned κs a r r' w w' p q = p ∙ sym q

pub leaf_from_pinned : Pinned leaf_from.Post
leaf_from_pinned κs a r r' w w' p q = p ∙ sym q

pub fork_from_pinned : Pinned fork_from.Post
fork_from_pinned κs a r r' w w' p q = p ∙ sym q

pub node_from_pinned : Pinned node_from.Post
node_from_pinned κs a r r' w w' p q = p ∙ sym q

-- of whatever type the node that is put: a free one, a leaf, a fork
pub set_node_pinned : (T : RattleType) (l : Laws T) (n : Words.Ghosts T.Denot) (d : Dict) (κs : _) (a : _) (r r' : _) (w w' : _)
    → set_node.Post T l n d κs a r w → set_node.Post T l n d κs a r' w' → w.0.now ≡ w'.0.now
set_node_pinned T l n d κs a r r' w w' p q = p ∙ sym q

pub move_node_pinned : (κs : _) (a : _) (r r' : _) (w w' : _) → move_node.Post κs a r w → move_node.Post κs a r' w' → w.0.now ≡ w'.0.now
move_node_pinned κs a r r' w w' p q = p ∙ sym q

pub less_left_pinned : (κs : _) (a : _) (r r' : _) (w w' : _) → less_left.Pre κs a → less_left.Post κs a r w → less_left.Post κs a r' w'
    → w.0.now ≡ w'.0.now
less_left_pinned κs a r r' w w' t p q = p t.0 t.1 ∙ sym (q t.0 t.1)

pub set_left_pinned : (κs : _) (a : _) (r r' : _) (w w' : _) → set_left.Pre κs a → set_left.Post κs a r w → set_left.Post κs a r' w'
    → w.0.now ≡ w'.0.now
set_left_pinned κs a r r' w w' t p q = p t.0 t.1 ∙ sym (q t.0 t.1)
