-- How full the leaves are after a remove. What is left of a child is as full as it was, but a child that is a single leaf may be one mark
-- short; the mend at its parent, which joins it to its neighbour or borrows a mark, makes that good.
use Prim.Native.Nat.{ℕ, suc, ◌+◌, ◌-◌, ◌≤◌, ◌<◌}
use native.Mathlib.Omega.{arith}
use mathlib.Core.Path.{◌≡◌, refl}
use mathlib.Core.Bool.{Bool}
use mathlib.Core.List.{List}
use lib.ListN.{length, length-append, length-take, length-drop}
use Rattle.model.specs.Tree.{Tree, leaf, fork, top, marks, size, first_leaf, last_leaf, renumber}
use Rattle.model.specs.Edit.{leaf_least}
use Rattle.model.specs.Sound.{leaf_most, Sized, Whole}
use Rattle.model.specs.Edit.{leaf_low, put_before, put_after, drop_first, drop_last, first_mark, last_mark, Trimmed, mend_left, mend_right, remove}
use Rattle.model.proofs.Cases.{remove_cases, mend_left_cases, mend_right_cases}
use Rattle.model.proofs.MarksEdits.{length_remove}
use Rattle.model.proofs.Content.{size_marks}
use Rattle.model.proofs.Leaves.{sized_weaken, fork_size, rebalance_sized}

-- ---- one mark short

-- as full as Sized asks, but a tree that is a single leaf may be one mark short
abbrev pub Short : ℕ → Tree → Type 0
Short least (leaf n xs) = (least ≤ suc (length xs)) × (length xs ≤ leaf_most)
Short least (fork n l r) = Sized least (fork n l r)

-- what is full enough is so with one mark to spare
pub sized_short : (least : ℕ) (t : Tree) → Sized least t → Short least t
sized_short least (leaf n xs) s = omega arith
sized_short least (fork n l r) s = s

-- with more than 32 marks it is not short
pub short_sized : (least : ℕ) (t : Tree) → least ≤ leaf_least → leaf_low < size t → Short least t → Sized least t
unfolding size
short_sized least (leaf n xs) low h s = omega arith
short_sized least (fork n l r) low h s = s

-- where one mark was asked of the rightmost leaf, it is a whole tree
pub short_whole : (t : Tree) → Short 1 t → Whole t
short_whole (leaf n xs) s = omega arith
short_whole (fork n l r) s = s

-- with at most 32 marks it is a single leaf
pub short_leaf : (least : ℕ) (t : Tree) → Short least t → size t ≤ leaf_low → t ≡ leaf (top t) (marks t)
unfolding top marks
short_leaf least (leaf n xs) s small = refl
short_leaf least (fork n l r) s small = absurd (omega (arith, fork_size least n l r s))

-- ---- marks put to an end, and taken off it

-- marks put before the first leaf, where they fit
put_before_sized : (least : ℕ) (ys : List Bool) (t : Tree) → length ys + length (first_leaf t) ≤ leaf_most → Sized least t
    → Sized least (put_before ys t)
unfolding put_before first_leaf
put_before_sized least ys (leaf n xs) h s = simp length-append (omega arith)
put_before_sized least ys (fork n l r) h s = (put_before_sized leaf_least ys l h s.0, s.1)

-- marks put after the last leaf, where they fit
put_after_sized : (least : ℕ) (ys : List Bool) (t : Tree) → length (last_leaf t) + length ys ≤ leaf_most → Sized least t
    → Sized least (put_after ys t)
unfolding put_after last_leaf
put_after_sized least ys (leaf n xs) h s = simp length-append (omega arith)
put_after_sized least ys (fork n l r) h s = (s.0, put_after_sized least ys r h s.1)

-- the first mark taken off, where the first leaf can spare it
drop_first_sized : (least : ℕ) (t : Tree) → least ≤ leaf_least → leaf_least < length (first_leaf t) → Sized least t → Sized least (drop_first t)
unfolding drop_first first_leaf
drop_first_sized least (leaf n xs) low h s = simp (length-drop 1 xs) (omega arith)
drop_first_sized least (fork n l r) low h s = (drop_first_sized leaf_least l (omega arith) h s.0, s.1)

-- the last mark taken off, where the last leaf can spare it
drop_last_sized : (least : ℕ) (t : Tree) → least < length (last_leaf t) → Sized least t → Sized least (drop_last t)
unfolding drop_last last_leaf
drop_last_sized least (leaf n xs) h s = simp length-take (omega arith)
drop_last_sized least (fork n l r) h s = (s.0, drop_last_sized least r h s.1)

-- another number at the top
renumber_sized : (least k : ℕ) (t : Tree) → Sized least t → Sized least (renumber k t)
unfolding renumber
renumber_sized least k (leaf n xs) s = s
renumber_sized least k (fork n l r) s = s

-- a mark lent to a small tree, which is a single leaf, makes good what it is short of
lent_after : (least : ℕ) (ys : List Bool) (t : Tree) → 1 ≤ least → length ys ≡ 1 → size t ≤ leaf_low → Short least t → Sized least (put_after ys t)
unfolding put_after size
lent_after least ys (leaf n xs) pos one small s = simp length-append (omega arith)
lent_after least ys (fork n l r) pos one small s = absurd (omega (arith, fork_size least n l r s))

-- the mirror image
lent_before : (least : ℕ) (ys : List Bool) (t : Tree) → 1 ≤ least → length ys ≡ 1 → size t ≤ leaf_low → Short least t → Sized least (put_before ys t)
unfolding put_before size
lent_before least ys (leaf n xs) pos one small s = simp length-append (omega arith)
lent_before least ys (fork n l r) pos one small s = absurd (omega (arith, fork_size least n l r s))

-- the first mark is one mark
first_mark_one : (t : Tree) → 1 ≤ length (first_leaf t) → length (first_mark t) ≡ 1
unfolding first_mark
first_mark_one t h = simp (length-take 1 (first_leaf t)) (omega arith)

-- and so is the last
last_mark_one : (t : Tree) → 1 ≤ length (last_leaf t) → length (last_mark t) ≡ 1
unfolding last_mark
last_mark_one t h = simp (length-drop) (omega arith)

-- ---- remove

-- the mend makes good what a child is short of
module _ (least n : ℕ) (pos : 1 ≤ least) (low : least ≤ leaf_least) where
  mend_left_sized : (t : Trimmed) (r : Tree) → Short leaf_least t.tree → Sized least r → Sized least (mend_left n t r).tree
  mend_left_sized t r p q =
      let m = size_marks t.tree in
      mend_left_cases (λ (u : Trimmed). Sized least u.tree) n t r
      (λ small lean. renumber_sized least n (put_before (marks t.tree) r) (put_before_sized least (marks t.tree) r (omega arith) q))
      (λ small rich. rebalance_sized least n (put_after (first_mark r) t.tree) (drop_first r)
      (lent_after leaf_least (first_mark r) t.tree (omega arith) (first_mark_one r (omega arith)) small p)
      (drop_first_sized least r low (omega arith) q))
      (λ large. rebalance_sized least n t.tree r (short_sized leaf_least t.tree (omega arith) large p) q)

  -- the mirror image
  mend_right_sized : (l : Tree) (t : Trimmed) → Sized leaf_least l → Short least t.tree → Sized least (mend_right n l t).tree
  mend_right_sized l t p q =
      let m = size_marks t.tree in
      mend_right_cases (λ (u : Trimmed). Sized least u.tree) n l t
      (λ small lean. renumber_sized least n (put_after (marks t.tree) l)
      (sized_weaken least leaf_least (put_after (marks t.tree) l) low (put_after_sized leaf_least (marks t.tree) l (omega arith) p)))
      (λ small rich. rebalance_sized least n (drop_last l) (put_before (last_mark l) t.tree)
      (drop_last_sized leaf_least l (omega arith) p)
      (lent_before least (last_mark l) t.tree pos (last_mark_one l (omega arith)) small q))
      (λ large. rebalance_sized least n l t.tree p (short_sized least t.tree low large q))

-- a remove leaves a tree as full as it was, but a single leaf may be one mark short
pub remove_short : (least i : ℕ) (t : Tree) → 1 ≤ least → least ≤ leaf_least → i < size t → Sized least t → Short least (remove i t).tree
unfolding remove size
remove_short least i (leaf n xs) pos low h s = omega (arith, length_remove i xs h)
remove_short least i (fork n l r) pos low h s =
    sized_short least (remove i (fork n l r)).tree
    (remove_cases (λ (u : Trimmed). Sized least u.tree) i n l r
    (λ left. mend_left_sized least n pos low (remove i l) r (remove_short leaf_least i l (omega arith) (omega arith) left s.0) s.1)
    (λ right. mend_right_sized least n pos low l (remove (i - size l) r) s.0 (remove_short least (i - size l) r pos low (omega arith) s.1)))

-- a remove leaves a whole tree whole
pub remove_whole : (i : ℕ) (t : Tree) → i < size t → Whole t → Whole (remove i t).tree
unfolding remove size
remove_whole i (leaf n xs) h w = omega (arith, length_remove i xs h)
remove_whole i (fork n l r) h w = short_whole (remove i (fork n l r)).tree (remove_short 1 i (fork n l r) (omega arith) (omega arith) h w)
