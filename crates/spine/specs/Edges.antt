-- Edits along an edge of a tree that stands in a pool's words: what each may assume of the tree, and what it leaves.
use Rattle.std.specs.Prelude.{ℕ, ◌+◌, ◌≤◌, ◌≡◌, Bool, true, List, [], ◌∷◌, length}
use Rattle.model.specs.Marks.{count}
use Rattle.model.specs.Sound.{Distinct}
use Rattle.model.specs.Tree as Tree
use Rattle.model.specs.Tree.{Tree, first_leaf, last_leaf, numbers}
use Rattle.bits.specs.Leaf.{leaf_of}
use Rattle.bits.specs.declared.leaf.Leaf.{Leaf}
use Rattle.pool.specs.Layout.{Rooted, Edited}
use Rattle.tree.specs.declared.root.Root.{Root}

-- the number of the last leaf
abbrev pub last_number : Tree → ℕ
last_number (Tree.leaf n xs) = n
last_number (Tree.fork n l r) = last_number r

pub record IsLast (leaf : Root) (t : Tree) : Type 0 where
  pub at : leaf.node ≡ last_number t
  pub size_is : leaf.length ≡ length (last_leaf t)

-- a tree that may be edited in place: no number stands twice in it
pub record Editable (w : List ℕ) (n levels : ℕ) (t : Tree) : Type 0 where
  pub rooted : Rooted w n levels t
  pub once : Distinct (numbers t)

-- the marks ys, so many in a leaf and so many of them strikes, can be put before the first mark of t: its first leaf
-- has room for them
pub record ToPutBefore (w : List ℕ) (n levels : ℕ) (leaf : Leaf) (size ones : ℕ) (t : Tree) (ys : List Bool)
    : Type 0 where
  pub tree : Editable w n levels t
  pub held : leaf ≡ leaf_of ys
  pub total : length ys ≡ size
  pub strikes : count true ys ≡ ones
  pub room : length ys + length (first_leaf t) ≤ 127

-- the marks ys of a leaf can be put after the last mark of t, which the root tells
pub record ToPutAfter (w : List ℕ) (root : Root) (levels : ℕ) (leaf : Leaf) (t : Tree) (ys : List Bool) : Type 0 where
  pub tree : Editable w root.node levels t
  pub total : Tree.size t ≡ root.length
  pub held : leaf ≡ leaf_of ys
  pub room : length ys + length (last_leaf t) ≤ 127

-- the first leaf of t has a mark to take
pub record ToDropFirst (w : List ℕ) (n levels : ℕ) (t : Tree) : Type 0 where
  pub tree : Editable w n levels t
  pub some : 1 ≤ length (first_leaf t)

-- the last leaf of t, which the root tells, has a mark to take
pub record ToDropLast (w : List ℕ) (root : Root) (levels : ℕ) (t : Tree) : Type 0 where
  pub tree : Editable w root.node levels t
  pub total : Tree.size t ≡ root.length
  pub some : 1 ≤ length (last_leaf t)

-- t' stands where t stood, and the one mark of `mark` was handed back
pub record Taken (w w' : List ℕ) (t : Tree) (mark : List Bool) (t' : Tree) (bit : Bool) : Type 0 where
  pub edited : Edited w w' (numbers t) t'
  pub marked : mark ≡ bit ∷ []
