-- What the tree's functions do, by cases: what is shown of each outcome, from the facts that the tests establish there, holds of the result.
-- The tests are looked at here once; a proof elsewhere names what it shows of the result and goes by the outcomes.
use Prim.Native.Nat.{ℕ, ◌+◌, ◌-◌, ◌≤◌, ◌<◌}
use mathlib.Core.Path.{◌≡◌, refl}
use mathlib.Core.Bool.{Bool, true, false}
use mathlib.Core.List.{List, ◌∷◌}
use lib.Dec.{leb, ltb}
use lib.ListN.{length, take, drop, get_or}
use borrow.Author.Tests.{leb-true, leb-false, ltb-true, ltb-false, eqb-true, eqb-false, lt-ltb, le-ltb}
use Rattle.model.specs.Tree.{Tree, leaf, fork, top, marks, size, height, first_leaf, last_leaf, renumber}
use Rattle.model.specs.Turn.{turn_right, turn_left, leaning_left, leaning_right, rebalance, higher_by}
use Rattle.model.specs.Edit.{leaf_split, leaf_half, leaf_low, leaf_least, splits, leaf_at, settle, insert, put_before, put_after, drop_first, drop_last, first_mark, last_mark, Trimmed, mend_left, mend_right, remove}

-- what follows from a passed test and from a failed one follows
pub by_test : {P : Type 0} (b : Bool) → (b ≡ true → P) → (b ≡ false → P) → P
by_test true p q = p refl
by_test false p q = q refl

-- the tests of numbers
pub by_leb : {P : Type 0} (m n : ℕ) → (leb m n ≡ true → m ≤ n → P) → (leb m n ≡ false → n < m → P) → P
by_leb m n p q = by_test (leb m n) (λ e. p e (leb-true m n e)) (λ e. q e (leb-false m n e))

-- the same for the strict order
pub by_ltb : {P : Type 0} (m n : ℕ) → (ltb m n ≡ true → m < n → P) → (ltb m n ≡ false → n ≤ m → P) → P
by_ltb m n p q = by_test (ltb m n) (λ e. p e (ltb-true m n e)) (λ e. q e (ltb-false m n e))

-- the same for the test of heights
by_higher : {P : Type 0} (n : ℕ) (t u : Tree) → (higher_by n t u ≡ true → height t ≡ height u + n → P)
    → (higher_by n t u ≡ false → (height t ≡ height u + n → ⊥) → P) → P
unfolding higher_by
by_higher n t u p q = by_test (higher_by n t u) (λ e. p e (eqb-true (height t) (height u + n) e)) (λ e. q e (eqb-false (height t) (height u + n) e))

-- ---- turns

module _ (P : Tree → Type 0) (n : ℕ) (l r : Tree) where
  -- a left child is turned left if it leans right
  pub leaning_left_cases : (height r ≡ height l + 1 → P (turn_left (fork n l r))) → ((height r ≡ height l + 1 → ⊥) → P (fork n l r))
      → P (leaning_left (fork n l r))
  unfolding leaning_left
  leaning_left_cases p q = by_higher 1 r l (λ e h. rw (leaning_left, e) (p h)) (λ e h. rw (leaning_left, e) (q h))

  -- the mirror image
  pub leaning_right_cases : (height l ≡ height r + 1 → P (turn_right (fork n l r))) → ((height l ≡ height r + 1 → ⊥) → P (fork n l r))
      → P (leaning_right (fork n l r))
  unfolding leaning_right
  leaning_right_cases p q = by_higher 1 l r (λ e h. rw (leaning_right, e) (p h)) (λ e h. rw (leaning_right, e) (q h))

  -- balancing turns right where the left child is too high, left where the right child is, and else leaves the fork as it is
  pub rebalance_cases : (height l ≡ height r + 2 → P (turn_right (fork n (leaning_left l) r)))
      → (height r ≡ height l + 2 → P (turn_left (fork n l (leaning_right r))))
      → ((height l ≡ height r + 2 → ⊥) → (height r ≡ height l + 2 → ⊥) → P (fork n l r)) → P (rebalance n l r)
  unfolding rebalance
  rebalance_cases p q k =
      by_higher 2 l r
      (λ e h. rw (rebalance, e) (p h))
      (λ e h. by_higher 2 r l (λ f g. rw (rebalance, e, f) (q g)) (λ f g. rw (rebalance, e, f) (k h g)))

-- ---- insert

-- a leaf splits where it has 128 marks
pub settle_cases : (P : Tree → Type 0) (n : ℕ) (xs : List Bool) (free : List ℕ)
    → (leaf_split ≤ length xs → P (fork n (leaf (get_or free 0 0) (take leaf_half xs)) (leaf (get_or free 1 0) (drop leaf_half xs))))
    → (length xs < leaf_split → P (leaf n xs)) → P (settle n xs free)
unfolding settle
settle_cases P n xs free p q = by_leb leaf_split (length xs) (λ e h. rw (settle, e) (p h)) (λ e h. rw (settle, e) (q h))

-- an insert goes left or right
pub insert_cases : (P : Tree → Type 0) (i : ℕ) (b : Bool) (free : List ℕ) (n : ℕ) (l r : Tree)
    → (i < size l → P (rebalance n (insert i b free l) r)) → (size l ≤ i → P (rebalance n l (insert (i - size l) b free r)))
    → P (insert i b free (fork n l r))
unfolding insert
insert_cases P i b free n l r p q = by_ltb i (size l) (λ e h. rw (insert, e) (p h)) (λ e h. rw (insert, e) (q h))

-- whether its leaf splits is asked of the child that it goes to
pub splits_left : (i n : ℕ) (l r : Tree) → i < size l → splits i (fork n l r) ≡ splits i l
unfolding splits leaf_at
splits_left i n l r h = rw (splits, leaf_at, lt-ltb i (size l) h)

-- the mirror image
pub splits_right : (i n : ℕ) (l r : Tree) → size l ≤ i → splits i (fork n l r) ≡ splits (i - size l) r
unfolding splits leaf_at
splits_right i n l r h = rw (splits, leaf_at, le-ltb i (size l) h)

-- ---- remove

-- a remove goes left or right
pub remove_cases : (P : Trimmed → Type 0) (i n : ℕ) (l r : Tree) → (i < size l → P (mend_left n (remove i l) r))
    → (size l ≤ i → P (mend_right n l (remove (i - size l) r))) → P (remove i (fork n l r))
unfolding remove
remove_cases P i n l r p q = by_ltb i (size l) (λ e h. rw (remove, e) (p h)) (λ e h. rw (remove, e) (q h))

-- a child left with too few marks is joined to the neighbouring leaf, or borrows a mark from it, and is else kept
pub mend_left_cases : (P : Trimmed → Type 0) (n : ℕ) (t : Trimmed) (r : Tree)
    → (size t.tree ≤ leaf_low → length (first_leaf r) ≤ leaf_least
    → P (record { tree = renumber n (put_before (marks t.tree) r); freed = top r ∷ top t.tree ∷ t.freed }))
    → (size t.tree ≤ leaf_low → leaf_least < length (first_leaf r)
    → P (record { tree = rebalance n (put_after (first_mark r) t.tree) (drop_first r); freed = t.freed }))
    → (leaf_low < size t.tree → P (record { tree = rebalance n t.tree r; freed = t.freed })) → P (mend_left n t r)
unfolding mend_left
mend_left_cases P n t r p q k =
    by_leb (size t.tree) leaf_low
    (λ e h. by_leb (length (first_leaf r)) leaf_least (λ f g. rw (mend_left, e, f) (p h g)) (λ f g. rw (mend_left, e, f) (q h g)))
    (λ e h. rw (mend_left, e) (k h))

-- the mirror image
pub mend_right_cases : (P : Trimmed → Type 0) (n : ℕ) (l : Tree) (t : Trimmed)
    → (size t.tree ≤ leaf_low → length (last_leaf l) ≤ leaf_least
    → P (record { tree = renumber n (put_after (marks t.tree) l); freed = top t.tree ∷ top l ∷ t.freed }))
    → (size t.tree ≤ leaf_low → leaf_least < length (last_leaf l)
    → P (record { tree = rebalance n (drop_last l) (put_before (last_mark l) t.tree); freed = t.freed }))
    → (leaf_low < size t.tree → P (record { tree = rebalance n l t.tree; freed = t.freed })) → P (mend_right n l t)
unfolding mend_right
mend_right_cases P n l t p q k =
    by_leb (size t.tree) leaf_low
    (λ e h. by_leb (length (last_leaf l)) leaf_least (λ f g. rw (mend_right, e, f) (p h g)) (λ f g. rw (mend_right, e, f) (q h g)))
    (λ e h. rw (mend_right, e) (k h))
