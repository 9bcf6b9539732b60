-- What a remove does to a tree, apart from words: the top number stays, it counts one mark less, and of the numbers none
-- is lost or doubled. It frees two numbers or none, since the child that is joined away is a leaf.
use Prim.Native.Nat.{ℕ, suc, ◌+◌, ◌-◌, ◌≤◌, ◌<◌}
use native.Mathlib.Omega.{arith}
use mathlib.Core.Path.{◌≡◌, refl, sym, ap}
use mathlib.Core.Bool.{Bool, true, false}
use mathlib.Core.List.Memᴰ
use mathlib.Core.List.{List, [], ◌∷◌, ◌++◌, Memᴰ}
use lib.ListN.{length, take, drop, get_or, take-append-drop}
use lib.Seq.{drop-cons}
use Rattle.model.specs.Edit.{Trimmed, put_before, put_after, drop_first, drop_last, first_mark, last_mark, mend_left, mend_right, remove}
use Rattle.model.specs.Marks as Marks
use Rattle.model.specs.Marks.{access, count}
use Rattle.model.specs.Sound.{Balanced, Sized, Whole}
use Rattle.model.specs.Tree.{Tree, leaf, fork, top, marks, size, height, numbers, renumber}
use Rattle.model.specs.Turn.{rebalance}
use Rattle.model.specs.Word.{digit}
use Rattle.model.proofs.BalanceMended.{remove_balanced}
use Rattle.model.proofs.Cases.{remove_cases, mend_left_cases, mend_right_cases}
use Rattle.model.proofs.Content.{remove_marks, remove_size, size_marks}
use Rattle.model.proofs.Counting.{count_append}
use Rattle.model.proofs.Leaves.{small_leaf}
use Rattle.model.proofs.Numbers.{remove_numbers}
use Rattle.model.proofs.Rearranged.{weigh_append, rearranged_sym, rearranged_member}
use Rattle.model.proofs.Tops.{rebalance_top}
use Rattle.model.specs.Side.{side}
use Rattle.turn.proofs.Sites.{Altered}
use Rattle.descent.proofs.Digits.{count_cons}

-- ---- the top number stays

renumber_top : (n : ℕ) (t : Tree) → top (renumber n t) ≡ n
unfolding top renumber
renumber_top n (leaf m xs) = refl
renumber_top n (fork m l r) = refl

pub remove_top : (i : ℕ) (t : Tree) → top (remove i t).tree ≡ top t
unfolding remove top
remove_top i (leaf n xs) = refl
remove_top i (fork n l r) =
    remove_cases (λ (u : Trimmed). top u.tree ≡ n) i n l r
    (λ _. mend_left_cases (λ (u : Trimmed). top u.tree ≡ n) n (remove i l) r
    (λ _ _. renumber_top n (put_before (marks (remove i l).tree) r))
    (λ _ _. rebalance_top n (put_after (first_mark r) (remove i l).tree) (drop_first r))
    (λ _. rebalance_top n (remove i l).tree r))
    (λ _. mend_right_cases (λ (u : Trimmed). top u.tree ≡ n) n l (remove (i - size l) r)
    (λ _ _. renumber_top n (put_after (marks (remove (i - size l) r).tree) l))
    (λ _ _. rebalance_top n (drop_last l) (put_before (last_mark l) (remove (i - size l) r).tree))
    (λ _. rebalance_top n l (remove (i - size l) r).tree))

-- ---- one mark less

count_remove : (i : ℕ) (xs : List Bool) → i < length xs → count true xs ≡ count true (Marks.remove i xs) + digit (access i xs)
unfolding Marks.remove access
count_remove i xs h =
    let x : Bool = get_or xs i false in
    omega (
      arith,
      ap (count true) (sym (take-append-drop i xs)),
      count_append true (take i xs) (drop i xs),
      ap (count true) (drop-cons xs i false h),
      count_cons x (drop (suc i) xs),
      count_append true (take i xs) (drop (suc i) xs),
    )

pub remove_count : (i : ℕ) (t : Tree) → i < size t → count true (marks t) ≡ count true (marks (remove i t).tree) + digit (access i (marks t))
remove_count i t h = rw (remove_marks i t h) (count_remove i (marks t) (omega (arith, size_marks t)))

-- ---- what it makes of the tree

pub remove_alters : (i : ℕ) (t : Tree) (free : List ℕ) → i < size t → Whole t → Balanced t
    → Altered t (remove i t).tree free ((remove i t).freed ++ free)
remove_alters i t free h whole b =
    let g = remove_balanced i t h whole b in
    record {
      balanced = g.balanced;
      rose = omega (arith, g.most);
      fell = g.least;
      larger = omega (arith, remove_size i t h);
      numbers_are = λ w. let e = simp weigh_append at (remove_numbers i t h whole w) in simp weigh_append (omega arith);
    }

-- a number that is freed was one of the tree's
pub freed_in : (i : ℕ) (t : Tree) → i < size t → Whole t → (k : ℕ) → Memᴰ k (remove i t).freed → Memᴰ k (numbers t)
freed_in i t h whole k m =
    rearranged_member k _ _ (rearranged_sym _ _ (remove_numbers i t h whole)) (Memᴰ.append_right (numbers (remove i t).tree) m)

-- ---- what it frees

-- a leaf of few marks is left a leaf, and nothing is freed
pub record Lessened (t : Tree) (u : Trimmed) : Type 0 where
  pub flat : height t ≡ 0
  pub left_flat : height u.tree ≡ 0
  pub none : u.freed ≡ []
  pub numbers_same : numbers u.tree ≡ numbers t

leaf_lessened : (i n : ℕ) (xs : List Bool) → Lessened (leaf n xs) (remove i (leaf n xs))
unfolding remove height numbers
leaf_lessened i n xs = record { flat = refl; left_flat = refl; none = refl; numbers_same = refl }

pub small_lessened : (least i : ℕ) (t : Tree) → 1 ≤ least → Sized least t → size t ≤ 33 → Lessened t (remove i t)
small_lessened least i t pos s h = rw (small_leaf least t pos s h) (leaf_lessened i (top t) (marks t))

-- none, or two
abbrev pub NoneOrTwo : List ℕ → Type 0
NoneOrTwo [] = Unit {0}
NoneOrTwo (a ∷ []) = ⊥
NoneOrTwo (a ∷ b ∷ []) = Unit {0}
NoneOrTwo (a ∷ b ∷ c ∷ xs) = ⊥

freed_sized : (least i : ℕ) (t : Tree) → 1 ≤ least → i < size t → Sized least t → NoneOrTwo (remove i t).freed
unfolding remove size
freed_sized least i (leaf n xs) pos h s = tt
freed_sized least i (fork n l r) pos h s =
    remove_cases (λ (u : Trimmed). NoneOrTwo u.freed) i n l r
    (λ left.
    let below = freed_sized 33 i l (omega arith) left s.0 in
    let less = remove_size i l left in
    mend_left_cases (λ (u : Trimmed). NoneOrTwo u.freed) n (remove i l) r
    (λ small _. rw (small_lessened 33 i l (omega arith) s.0 (omega arith)).none tt) (λ _ _. below) (λ _. below))
    (λ right.
    let k : i - size l < size r = omega arith in
    let below = freed_sized least (i - size l) r pos k s.1 in
    let less = remove_size (i - size l) r k in
    mend_right_cases (λ (u : Trimmed). NoneOrTwo u.freed) n l (remove (i - size l) r)
    (λ small _. rw (small_lessened least (i - size l) r pos s.1 (omega arith)).none tt) (λ _ _. below) (λ _. below))

pub freed_few : (i : ℕ) (t : Tree) → i < size t → Whole t → NoneOrTwo (remove i t).freed
unfolding remove
freed_few i (leaf n xs) h whole = tt
freed_few i (fork n l r) h whole = freed_sized 1 i (fork n l r) (omega arith) h whole

-- ---- the mend on either side

abbrev pub mend_at : Bool → ℕ → Tree → Tree → Trimmed → Trimmed
mend_at true n l r t = mend_left n t r
mend_at false n l r t = mend_right n l t

-- a child that is not short is kept, and the fork balanced
pub mend_kept : (left : Bool) (n : ℕ) (l r : Tree) (t : Trimmed) → 32 < size t.tree
    → mend_at left n l r t ≡ record { tree = rebalance n (side left t.tree l) (side left r t.tree); freed = t.freed }
mend_kept true n l r t h =
    mend_left_cases (λ (u : Trimmed). u ≡ record { tree = rebalance n t.tree r; freed = t.freed }) n t r
    (λ low _. absurd (omega arith)) (λ low _. absurd (omega arith)) (λ _. refl)
mend_kept false n l r t h =
    mend_right_cases (λ (u : Trimmed). u ≡ record { tree = rebalance n l t.tree; freed = t.freed }) n l t
    (λ low _. absurd (omega arith)) (λ low _. absurd (omega arith)) (λ _. refl)
