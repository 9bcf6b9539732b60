-- How a pool's state stands in its node words: each node of the tree at its number, and the free chain, each free node
-- holding the next number.
use Rattle.std.specs.Prelude.{ℕ, ◌+◌, ◌-◌, ◌*◌, ◌≤◌, ◌≡◌, true, length}
use mathlib.Core.List.{List, [], ◌∷◌, Memᴰ}
use Rattle.model.specs.Marks.{count}
use Rattle.model.specs.Pool.{Pool}
use Rattle.model.specs.Sound.{Sized}
use Rattle.model.specs.Tree.{Tree, top, marks, size, height}
use Rattle.bits.specs.Leaf.{leaf_of}
use Rattle.pool.specs.Node.{node_words, node_at}
use Rattle.pool.specs.declared.node.Fork.{Fork}
use Rattle.pool.specs.declared.node.Node.TheVariants.{Free as free, Leaf as leaf, Fork as fork}

-- what the fork over two trees holds; the balance, right height less left height, is stored two greater
unfoldable pub fork_of : Tree → Tree → Fork
fork_of l r =
    record {
      left = top l;
      right = top r;
      left_total = size l;
      left_ones = count true (marks l);
      balance = (height r + 2) - height l;
    }

-- each node of the tree stands at its number
abbrev pub Holds : List ℕ → Tree → Type 0
Holds w (Tree.leaf n xs) = node_at w n ≡ leaf (leaf_of xs)
Holds w (Tree.fork n l r) = (node_at w n ≡ fork (fork_of l r)) × Holds w l × Holds w r

-- the first number of a chain, and `end` where it has none
unfoldable pub first_of : ℕ → List ℕ → ℕ
first_of end [] = end
first_of end (n ∷ ns) = n

-- each node of the chain is free and holds the number of the next, the last one `end`
abbrev pub Chained : List ℕ → ℕ → List ℕ → Type 0
Chained w end [] = Unit {0}
Chained w end (n ∷ ns) = (node_at w n ≡ free (first_of end ns)) × Chained w end ns

-- a pool of n nodes stands in these words
pub record Laid (w : List ℕ) (n : ℕ) (p : Pool) : Type 0 where
  pub words : length w ≡ n * node_words
  pub tree : Holds w p.tree
  pub chain : Chained w n p.free

-- a tree that stands in these words, from its top number down, with so many levels at the most and no leaf too full
pub record Rooted (w : List ℕ) (n levels : ℕ) (t : Tree) : Type 0 where
  pub at : top t ≡ n
  pub holds : Holds w t
  pub deep : height t ≤ levels
  pub sized : Sized 0 t

-- w' is w with a tree put in it: the tree stands in w', and every node but those of ns is as it was
pub record Edited (w w' : List ℕ) (ns : List ℕ) (t : Tree) : Type 0 where
  pub size : length w' ≡ length w
  pub holds : Holds w' t
  pub else : (k : ℕ) → (Memᴰ k ns → ⊥) → node_at w' k ≡ node_at w k
