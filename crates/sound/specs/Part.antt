-- A subtree that stands in some node words from a number down, of which all is claimed from above, and what a visit
-- answers of it: whether it stands there.
use Rattle.std.specs.Prelude.{ℕ, ◌+◌, ◌-◌, ◌≤◌, ◌≡◌, max, Bool, true, List, length, take, Option, Some}
use Rattle.model.specs.Edit.{leaf_least}
use Rattle.model.specs.Limits.{levels as deepest}
use Rattle.model.specs.Marks.{count}
use Rattle.model.specs.Sound.{Balanced, Sized, leaf_most}
use Rattle.model.specs.Tree.{Tree, top, marks, size, height, numbers}
use Rattle.bits.specs.Leaf.{bits_of, leaf_of}
use Rattle.bits.specs.declared.leaf.Leaf.{Leaf}
use Rattle.pool.specs.Layout.{Holds}
use Rattle.pool.specs.declared.node.Fork.{Fork}
use Rattle.sound.specs.Met.{Fresh, Marked}
use Rattle.sound.specs.declared.edge.Edge.{Edge}
use Rattle.sound.specs.declared.met.Met.{Met}
use Rattle.sound.specs.declared.visit.Claim.{Claim}

-- the most levels of nodes, a leaf's among them
abbrev pub most_levels : ℕ
most_levels = deepest + 1

-- ---- one node

-- the first marks of a leaf
abbrev pub held : Leaf → ℕ → List Bool
held x n = take n (bits_of x)

-- a leaf holds so many marks, no fewer than `least`, so many of them strikes, and nothing past them; it is one level
pub record Filled (x : Leaf) (n strikes least levels : ℕ) : Type 0 where
  pub low : levels ≡ 1
  pub enough : least ≤ n
  pub most : n ≤ leaf_most
  pub ends : x ≡ leaf_of (held x n)
  pub ones : count true (held x n) ≡ strikes

-- what a fork says may be true of a tree of so many marks, strikes and levels
pub record Agrees (f : Fork) (total strikes levels : ℕ) : Type 0 where
  pub high : 2 ≤ levels
  pub leans : 1 ≤ f.balance
  pub even : f.balance ≤ 3
  pub marks : f.left_total ≤ total
  pub ones : f.left_ones ≤ strikes

-- ---- a subtree

-- A tree stands in these words from n down. It holds so many marks, so many of them strikes, and is balanced, no leaf
-- is too full or too empty, the rightmost holds at least `least`, and it has so many levels.
pub record Part (w : List ℕ) (least n total strikes levels : ℕ) (t : Tree) : Type 0 where
  pub at : top t ≡ n
  pub holds : Holds w t
  pub counts : size t ≡ total
  pub ones : count true (marks t) ≡ strikes
  pub sized : Sized least t
  pub balanced : Balanced t
  pub tall : height t + 1 ≡ levels

-- what the right edge tells: no more levels than there can be, and what is so of every tree of so many marks there
pub record Told (w : List ℕ) (n total : ℕ) (r : Option Edge) : Type 0 where
  pub low : (e : Edge) → r ≡ Some e → e.levels ≤ most_levels
  pub so : (least strikes levels : ℕ) (t : Tree) → Part w least n total strikes levels t → levels ≤ most_levels
      → r ≡ Some (record { ones = strikes; levels = levels })

-- ---- a subtree of which something is claimed

-- it stands in these words
abbrev pub Stands : List ℕ → Claim → Tree → Type 0
Stands w c t = Part w c.least c.root c.total c.ones c.levels t

-- what is claimed of a fork's children
abbrev pub left_claim : Claim → Fork → Claim
left_claim c f =
    record {
      root = f.left;
      total = f.left_total;
      ones = f.left_ones;
      least = leaf_least;
      levels = c.levels - max 1 (f.balance - 1);
    }

abbrev pub right_claim : Claim → Fork → Claim
right_claim c f =
    record {
      root = f.right;
      total = c.total - f.left_total;
      ones = c.ones - f.left_ones;
      least = c.least;
      levels = c.levels - max 1 (3 - f.balance);
    }

-- what a visit has found, and met on the way
pub record Walked (w : List ℕ) (m m' : Met) (c : Claim) (t : Tree) : Type 0 where
  pub part : Stands w c t
  pub fresh : Fresh m.words (numbers t)
  pub marked : Marked m.words m'.words (numbers t)
  pub rest : m'.room + length (numbers t) ≡ m.room

-- a tree is found where one stands whose nodes are all fresh, with no more of them than there is room for, and nowhere
-- else
pub record Visited (w : List ℕ) (m m' : Met) (c : Claim) (r : Bool) : Type 0 where
  pub yes : r ≡ true → (t : Tree) × Walked w m m' c t
  pub no : (t : Tree) → Stands w c t → Fresh m.words (numbers t) → length (numbers t) ≤ m.room
      → (r ≡ true) × (m'.room + length (numbers t) ≡ m.room) × Marked m.words m'.words (numbers t)
