-- Putting a mark into a tree that stands in a pool's words: what each step may assume, and what it leaves. The tree
-- that is left is the model's.
use Rattle.std.specs.Prelude.{ℕ, ◌≤◌, ◌<◌, ◌≡◌, Bool, true, false, leb, ℤ, length, drop}
use mathlib.Core.List.{List, [], ◌∷◌, ◌++◌, Memᴰ}
use Rattle.model.specs.Edit.{insert, leaf_split, settle, splits}
use Rattle.model.specs.Limits.{levels}
use Rattle.model.specs.Pool.{Pool}
use Rattle.model.specs.Sound.{Distinct}
use Rattle.model.specs.Tree.{Tree, size, numbers}
use Rattle.bits.specs.Leaf.{leaf_of}
use Rattle.bits.specs.declared.leaf.Leaf.{Leaf}
use Rattle.pool.specs.Layout.{Chained, Edited, Rooted, first_of}
use Rattle.pool.specs.Node.{nodes_in}
use Rattle.pool.specs.declared.chain.Chain.{Chain}
use Rattle.tree.specs.declared.root.Held.{Held}
use Rattle.tree.specs.declared.root.Root.{Root}
use Rattle.turn.specs.Sites.{After}
use Rattle.descent.specs.SiteAt.{SiteAt}

-- what an insert leaves of the free numbers: where its leaf splits, all but the first two
abbrev pub rest : Bool → List ℕ → List ℕ
rest true free = drop 2 free
rest false free = free

-- ---- is there room?

-- a pool's tree of so many marks, and a place of the tree
pub record ToAsk (w : List ℕ) (root : Root) (index : ℕ) : Type 0 where
  pub pool : Pool
  pub rooted : Rooted w root.node levels pool.tree
  pub total_is : size pool.tree ≡ root.length
  pub within : index ≤ root.length

-- ---- a leaf

-- A leaf of so many marks is to be put at n, and the free chain begins at `head`: two nodes are free where the leaf has
-- come to be too full.
pub record ToSettle (w : List ℕ) (n head : ℕ) (leaf : Leaf) (total : ℕ) : Type 0 where
  pub end : ℕ
  pub marks : List Bool
  pub free : List ℕ
  pub held : leaf ≡ leaf_of marks
  pub total_is : length marks ≡ total
  pub most : length marks ≤ leaf_split
  pub there : n < nodes_in w
  pub once : Distinct (n ∷ free)
  pub chained : Chained w end free
  pub first : first_of end free ≡ head
  pub room : leaf_split ≤ length marks → 2 ≤ length free

-- what settling leaves
abbrev pub Settled : {w : List ℕ} {n head : ℕ} {leaf : Leaf} {total : ℕ}
    → ToSettle w n head leaf total → List ℕ → ℕ → ℤ → Type 0
Settled {w} {n} {total = total} b w' head' by =
    After w w' b.end head' by (Tree.leaf n []) (settle n b.marks b.free) b.free
    (rest (leb leaf_split total) b.free)

-- ---- a tree

-- A mark can be put in at a place of the tree at n: two nodes are free where the place's leaf splits.
pub record ToInsert (w : List ℕ) (n levels head total index : ℕ) : Type 0 where
  pub at : SiteAt w n levels head total
  pub within : index ≤ total
  pub room : splits index at.tree ≡ true → 2 ≤ length at.free

module _ {w : List ℕ} {n levels head total index : ℕ} (b : ToInsert w n levels head total index) where
  -- the tree with the mark, and the free numbers that are left
  abbrev pub with_bit : Bool → Tree
  with_bit bit = insert index bit b.at.free b.at.tree

  abbrev pub left_over : List ℕ
  left_over = rest (splits index b.at.tree) b.at.free

  -- what an insert leaves
  abbrev pub Inserted : List ℕ → ℕ → ℤ → Bool → Type 0
  Inserted w' head' by bit = After w w' b.at.end head' by b.at.tree (with_bit bit) b.at.free left_over

-- the same of a pool's tree and chain; the chain's end is no free number
pub record ToInsertInto (w : List ℕ) (h : Held) (index : ℕ) : Type 0 where
  pub place : ToInsert w h.tree.node levels h.chain.first h.tree.length index
  pub count_is : length place.at.free ≡ h.chain.count
  pub past : Memᴰ place.at.end place.at.free → ⊥

-- the tree with the mark stands where the tree stood, and the chain is what is left of it
pub record InsertedInto {w : List ℕ} {h : Held} {index : ℕ}
    (b : ToInsertInto w h index) (w' : List ℕ) (after : Chain) (bit : Bool) : Type 0 where
  pub edited : Edited w w' (numbers b.place.at.tree ++ b.place.at.free) (with_bit b.place bit)
  pub chained : Chained w' b.place.at.end (left_over b.place)
  pub first : first_of b.place.at.end (left_over b.place) ≡ after.first
  pub count_is : length (left_over b.place) ≡ after.count
