-- A fork of which one child, a leaf, has too few marks: what mending it may assume, and what it leaves. Everywhere
-- `left` says which child it is.
use Rattle.std.specs.Prelude.{ℕ, ◌+◌, ◌≤◌, ◌<◌, ◌^◌, ◌≡◌, Bool, true, false, ◌&&◌, List, [], ◌∷◌, ◌++◌, ℤ, length}
use Rattle.model.specs.Edit.{Trimmed, drop_first, drop_last, first_mark, last_mark, leaf_low, mend_left, mend_right}
use Rattle.model.specs.Edit.{put_after, put_before}
use Rattle.model.specs.Edit.{leaf_least}
use Rattle.model.specs.Sound.{Distinct}
use Rattle.model.specs.Tree.{Tree, marks, size, height, numbers, first_leaf, last_leaf, renumber}
use Rattle.model.specs.Word.{digit}
use Rattle.pool.specs.Layout.{Chained, Edited, Rooted, first_of, fork_of}
use Rattle.pool.specs.Node.{free_cell, less_left, node_at, put}
use Rattle.pool.specs.declared.node.Fork.{Fork}
use Rattle.pool.specs.declared.node.Node.TheVariants.{Fork as fork}
use Rattle.model.specs.Side.{side}
use Rattle.turn.specs.Sites.{After}

-- ---- a fork's totals

-- a fork with a mark less in its left child or in its right one
abbrev pub one_less : Fork → Bool → Bool → Fork
one_less f left bit = less_left f (digit left) (digit (left && bit))

-- node n is a fork whose totals have the mark still
pub record ToUncount (w : List ℕ) (n : ℕ) (left bit : Bool) : Type 0 where
  pub f : Fork
  pub says : node_at w n ≡ fork f
  pub total : digit left ≤ f.left_total
  pub ones : digit (left && bit) ≤ f.left_ones

-- the words with both children of a fork put first in the chain from `head`: the left one, and then the right one
abbrev pub both_freed : List ℕ → ℕ → Fork → List ℕ
both_freed w head f = put (put w f.left (free_cell head)) f.right (free_cell f.left)

-- ---- what becomes of the trees

-- the leaf of the other child that stands next to this one
abbrev pub next_leaf : Bool → Tree → Tree → List Bool
next_leaf true l r = first_leaf r
next_leaf false l r = last_leaf l

-- the other child, with the marks of this one put to it
abbrev pub joined : Bool → Tree → Tree → Tree
joined true l r = put_before (marks l) r
joined false l r = put_after (marks r) l

-- the fork, with a mark lent to this child by the other
abbrev pub lent : Bool → ℕ → Tree → Tree → Tree
lent true n l r = Tree.fork n (put_after (first_mark r) l) (drop_first r)
lent false n l r = Tree.fork n (drop_last l) (put_before (last_mark l) r)

-- the fork mended, where nothing was freed below it
abbrev pub mended : Bool → ℕ → Tree → Tree → Trimmed
mended true n l r = mend_left n (record { tree = l; freed = [] }) r
mended false n l r = mend_right n l (record { tree = r; freed = [] })

-- ---- what stands in the words

-- the trees that a fork is over, each no deeper than so many levels
pub record Over (w : List ℕ) (levels : ℕ) (f : Fork) : Type 0 where
  pub l : Tree
  pub r : Tree
  pub is : f ≡ fork_of l r
  pub left_rooted : Rooted w f.left levels l
  pub right_rooted : Rooted w f.right levels r

-- the same, with how many marks they hold
pub record ToMeasure (w : List ℕ) (levels : ℕ) (f : Fork) (total : ℕ) : Type 0 where
  pub over : Over w levels f
  pub total_is : size over.l + size over.r ≡ total

-- The fork f at n, of which one child is a leaf with too few marks. No number stands twice in it.
pub record Short (w : List ℕ) (n levels : ℕ) (f : Fork) (left : Bool) : Type 0 where
  pub over : Over w levels f
  pub says : node_at w n ≡ fork f
  pub once : Distinct (numbers (Tree.fork n over.l over.r))
  pub few : size over.l + size over.r < 2 ^ 32
  pub low : size (side left over.l over.r) ≤ leaf_low
  pub flat : height (side left over.l over.r) ≡ 0
  pub near : height (side left over.r over.l) ≤ 1

-- the leaf next to the short one has so few marks that the two are joined, or so many that it lends one
pub record ToMerge (w : List ℕ) (n levels : ℕ) (f : Fork) (left : Bool) : Type 0 where
  pub short : Short w n levels f left
  pub lean : length (next_leaf left short.over.l short.over.r) ≤ leaf_least

pub record ToBorrow (w : List ℕ) (n levels : ℕ) (f : Fork) (left : Bool) : Type 0 where
  pub short : Short w n levels f left
  pub rich : leaf_least < length (next_leaf left short.over.l short.over.r)

-- A fork as `Short` says, of so many marks, and the free chain beside it, which begins at `head`.
pub record ToMend (w : List ℕ) (n levels head : ℕ) (left : Bool) (total : ℕ) : Type 0 where
  pub f : Fork
  pub short : Short w n levels f left
  pub end : ℕ
  pub free : List ℕ
  pub once : Distinct (numbers (Tree.fork n short.over.l short.over.r) ++ free)
  pub chained : Chained w end free
  pub first : first_of end free ≡ head
  pub total_is : size short.over.l + size short.over.r ≡ total

-- ---- what is left in them

module _ {w : List ℕ} {n levels : ℕ} {f : Fork} {left : Bool} where
  -- the joined tree stands at n, and what the numbers of the children hold is left open
  abbrev pub Merged : ToMerge w n levels f left → List ℕ → Type 0
  Merged b w' =
      let l : Tree = b.short.over.l in
      let r : Tree = b.short.over.r in
      Edited w w' (n ∷ numbers (side left r l)) (renumber n (joined left l r))

  abbrev pub Lent : ToBorrow w n levels f left → List ℕ → Type 0
  Lent b w' =
      let l : Tree = b.short.over.l in
      let r : Tree = b.short.over.r in
      Edited w w' (numbers (Tree.fork n l r)) (lent left n l r)

-- the fork mended, with what it frees first in the chain, which begins at `head'` now
abbrev pub Mended : {w : List ℕ} {n levels head : ℕ} {left : Bool} {total : ℕ} → ToMend w n levels head left total
    → List ℕ → ℕ → ℤ → Type 0
Mended {w} {n} {left = left} b w' head' by =
    let l : Tree = b.short.over.l in
    let r : Tree = b.short.over.r in
    let after : Trimmed = mended left n l r in
    After w w' b.end head' by (Tree.fork n l r) after.tree b.free (after.freed ++ b.free)
