-- Putting a mark into a tree and taking one out, as the textbooks have it: down to a leaf, and balanced again on the
-- way back.
use Rattle.std.specs.Prelude.{ℕ, suc, ◌-◌, Bool, true, false, List, [], ◌∷◌, ◌++◌, leb, ltb, length, take, drop, get_or}
use Rattle.model.specs.Marks as Marks
use Rattle.model.specs.Tree.{Tree, leaf, fork, top, marks, size, first_leaf, last_leaf, renumber}
use Rattle.model.specs.Turn.{rebalance}

-- a leaf that reaches this many marks splits in two halves
abbrev pub leaf_split : ℕ
leaf_split = 128

abbrev pub leaf_half : ℕ
leaf_half = 64

-- a child left with so few marks is joined to a neighbouring leaf, or borrows from it
abbrev pub leaf_low : ℕ
leaf_low = 32

-- a leaf of several that is not the rightmost holds at least this many marks: so a neighbouring leaf is joined where it
-- holds no more, and lends a mark where it holds more
abbrev pub leaf_least : ℕ
leaf_least = 33

-- ---- insert

-- the leaf that an insert at place i leads to: left where i is below the left child's size, else right
unfoldable pub leaf_at : ℕ → Tree → List Bool
leaf_at i (leaf n xs) = xs
leaf_at i (fork n l r) = elim (ltb i (size l)) [ true ↦ leaf_at i l | false ↦ leaf_at (i - size l) r ]

-- an insert at place i makes its leaf split
unfoldable pub splits : ℕ → Tree → Bool
splits i t = leb leaf_split (suc (length (leaf_at i t)))

-- The leaf n with these marks, split where they are too many: n becomes the fork, the left half takes the first free
-- number, the right half the next.
unfoldable pub settle : ℕ → List Bool → List ℕ → Tree
settle n xs free =
    elim (leb leaf_split (length xs)) [
      | true ↦ fork n (leaf (get_or free 0 0) (take leaf_half xs)) (leaf (get_or free 1 0) (drop leaf_half xs))
      | false ↦ leaf n xs
    ]

-- the tree with b put in at place i; free are the free numbers, of which a split takes the first two
unfoldable pub insert : ℕ → Bool → List ℕ → Tree → Tree
insert i b free (leaf n xs) = settle n (Marks.insert i b xs) free
insert i b free (fork n l r) =
    elim (ltb i (size l)) [
      | true ↦ rebalance n (insert i b free l) r
      | false ↦ rebalance n l (insert (i - size l) b free r)
    ]

-- ---- remove

-- marks put before the first leaf's, and after the last leaf's
unfoldable pub put_before : List Bool → Tree → Tree
put_before ys (leaf n xs) = leaf n (ys ++ xs)
put_before ys (fork n l r) = fork n (put_before ys l) r

unfoldable pub put_after : List Bool → Tree → Tree
put_after ys (leaf n xs) = leaf n (xs ++ ys)
put_after ys (fork n l r) = fork n l (put_after ys r)

-- the tree without its first mark, and without its last
unfoldable pub drop_first : Tree → Tree
drop_first (leaf n xs) = leaf n (drop 1 xs)
drop_first (fork n l r) = fork n (drop_first l) r

unfoldable pub drop_last : Tree → Tree
drop_last (leaf n xs) = leaf n (take (length xs - 1) xs)
drop_last (fork n l r) = fork n l (drop_last r)

unfoldable pub first_mark : Tree → List Bool
first_mark t = take 1 (first_leaf t)

unfoldable pub last_mark : Tree → List Bool
last_mark t = drop (length (last_leaf t) - 1) (last_leaf t)

-- a tree, and the numbers that an edit has freed, in the order in which they come to stand in the free chain
pub record Trimmed : Type 0 where
  pub tree : Tree
  pub freed : List ℕ

-- The left child has lost a mark and is t now. With too few marks left it is joined to the first leaf of the right
-- child, whose content moves to the parent's number; the left child's number is freed, then the right child's, so the
-- right one's is first in the chain. If that leaf holds more, it lends its first mark instead.
unfoldable pub mend_left : ℕ → Trimmed → Tree → Trimmed
mend_left n t r =
    elim (leb (size t.tree) leaf_low) [
      | true ↦ elim (leb (length (first_leaf r)) leaf_least) [
        | true ↦ record { tree = renumber n (put_before (marks t.tree) r); freed = top r ∷ top t.tree ∷ t.freed }
        | false ↦ record { tree = rebalance n (put_after (first_mark r) t.tree) (drop_first r); freed = t.freed }
      ]
      | false ↦ record { tree = rebalance n t.tree r; freed = t.freed }
    ]

-- the mirror image: the right child has lost a mark
unfoldable pub mend_right : ℕ → Tree → Trimmed → Trimmed
mend_right n l t =
    elim (leb (size t.tree) leaf_low) [
      | true ↦ elim (leb (length (last_leaf l)) leaf_least) [
        | true ↦ record { tree = renumber n (put_after (marks t.tree) l); freed = top t.tree ∷ top l ∷ t.freed }
        | false ↦ record { tree = rebalance n (drop_last l) (put_before (last_mark l) t.tree); freed = t.freed }
      ]
      | false ↦ record { tree = rebalance n l t.tree; freed = t.freed }
    ]

-- the tree without the mark at place i
unfoldable pub remove : ℕ → Tree → Trimmed
remove i (leaf n xs) = record { tree = leaf n (Marks.remove i xs); freed = [] }
remove i (fork n l r) =
    elim (ltb i (size l)) [
      | true ↦ mend_left n (remove i l) r
      | false ↦ mend_right n l (remove (i - size l) r)
    ]
