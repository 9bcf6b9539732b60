-- Taking a mark out of a tree that stands in words, with the free chain beside it: what may be assumed, and what is
-- left.
use Rattle.std.specs.Prelude.{ℕ, ◌+◌, ◌<◌, ◌^◌, ◌≡◌, Bool, ℤ, length}
use mathlib.Core.List.{List, ◌++◌, Memᴰ}
use Rattle.model.specs.Edit.{remove}
use Rattle.model.specs.Limits.{levels}
use Rattle.model.specs.Marks.{access}
use Rattle.model.specs.Tree.{marks, numbers}
use Rattle.pool.specs.Layout.{Chained, Edited, first_of}
use Rattle.tree.specs.declared.root.Held.{Held}
use Rattle.turn.specs.Sites.{After}
use Rattle.descent.specs.SiteAt.{SiteAt}
use Rattle.shrink.specs.declared.removing.Removed.{Removed}

-- there is a mark at a place of the tree at n
pub record ToRemove (w : List ℕ) (n levels head total index : ℕ) : Type 0 where
  pub at : SiteAt w n levels head total
  pub within : index < total

module _ {w : List ℕ} {n levels head total index : ℕ} (b : ToRemove w n levels head total index) where
  -- the chain with what was freed first in it
  abbrev pub with_freed : List ℕ
  with_freed = (remove index b.at.tree).freed ++ b.at.free

-- The mark has gone, and it was `bit`. The chain begins at `head'` now, and the tree has grown in height by `by`.
pub record Gone {w : List ℕ} {n levels head total index : ℕ} (b : ToRemove w n levels head total index)
    (w' : List ℕ) (head' : ℕ) (by : ℤ) (bit : Bool) : Type 0 where
  pub after :
      After w w' b.at.end head' by b.at.tree (remove index b.at.tree).tree b.at.free (with_freed b)
  pub mark : bit ≡ access index (marks b.at.tree)

-- the same of a whole pool: the chain is told by its first number and its length, and its end is no number of the tree
pub record ToRemoveFrom (w : List ℕ) (h : Held) (index : ℕ) : Type 0 where
  pub place : ToRemove w h.tree.node levels h.chain.first h.tree.length index
  pub count_is : length place.at.free ≡ h.chain.count
  pub past : Memᴰ place.at.end (numbers place.at.tree) → ⊥
  pub fits : h.chain.count + 2 < 2 ^ 64

-- what is left in the words, and what is handed back
pub record RemovedFrom {w : List ℕ} {h : Held} {index : ℕ}
    (b : ToRemoveFrom w h index) (w' : List ℕ) (r : Removed) : Type 0 where
  pub edited :
      Edited w w' (numbers b.place.at.tree ++ b.place.at.free) (remove index b.place.at.tree).tree
  pub chained : Chained w' b.place.at.end (with_freed b.place)
  pub first : first_of b.place.at.end (with_freed b.place) ≡ r.chain.first
  pub count_is : length (with_freed b.place) ≡ r.chain.count
  pub mark : r.bit ≡ access index (marks b.place.at.tree)
