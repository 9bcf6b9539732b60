-- A remove keeps a tree balanced and lowers it by one level at most. The child that the mend joins to its neighbour is a single leaf, so
-- its parent gives way to the sibling, which is as high as it was.
use Prim.Native.Nat.{ℕ, zero, suc, ◌-◌, ◌≤◌, ◌<◌}
use native.Mathlib.Omega.{arith}
use mathlib.Core.Path.{◌≡◌, refl, ap}
use Rattle.model.specs.Tree.{Tree, leaf, fork, marks, size, height, renumber}
use Rattle.model.specs.Turn.{rebalance}
use Rattle.model.specs.Edit.{leaf_least}
use Rattle.model.specs.Sound.{Balanced, Sized, Whole}
use Rattle.model.specs.Edit.{leaf_low, put_before, put_after, drop_first, drop_last, first_mark, last_mark, Trimmed, mend_left, mend_right, remove}
use Rattle.model.proofs.Cases.{remove_cases, mend_left_cases, mend_right_cases}
use Rattle.model.proofs.Content.{remove_size}
use Rattle.model.proofs.Shape.{shape, alike_height, alike_balanced, put_before_shape, put_after_shape, drop_first_shape, drop_last_shape, renumber_height, renumber_balanced}
use Rattle.model.proofs.Balance.{rebalance_balanced}
use Rattle.model.proofs.Leaves.{small_leaf}

-- balanced, and so many levels high or one fewer
pub record Lowered (h : ℕ) (t : Tree) : Type 0 where
  pub balanced : Balanced t
  pub least : h ≤ suc (height t)
  pub most : height t ≤ h

-- a tree of a lowered one's shape
alike_lowered : (h : ℕ) (t u : Tree) → shape t ≡ shape u → Lowered h u → Lowered h t
alike_lowered h t u e g =
    let s = alike_height t u e in
    let b = alike_balanced t u e g.balanced in
    search arith

-- the same with another number at the top
joined_lowered : (h k : ℕ) (t u : Tree) → shape t ≡ shape u → Lowered h u → Lowered h (renumber k t)
joined_lowered h k t u e g =
    let like = alike_lowered h t u e g in
    let s = renumber_height k t in
    let b = renumber_balanced k t like.balanced in
    search arith

-- two children, of which one has been lowered, balanced again
rebalance_lowered_left : (n : ℕ) (l r l' r' : Tree) → Balanced (fork n l r) → Lowered (height l) l' → shape r' ≡ shape r
    → Lowered (height (fork n l r)) (rebalance n l' r')
unfolding height
rebalance_lowered_left n l r l' r' b g e =
    let s = alike_height r' r e in
    let t = rebalance_balanced n l' r' g.balanced (alike_balanced r' r e b.1) (omega arith) (omega arith) in
    search arith

-- the mirror image
rebalance_lowered_right : (n : ℕ) (l r l' r' : Tree) → Balanced (fork n l r) → shape l' ≡ shape l → Lowered (height r) r'
    → Lowered (height (fork n l r)) (rebalance n l' r')
unfolding height
rebalance_lowered_right n l r l' r' b e g =
    let s = alike_height l' l e in
    let t = rebalance_balanced n l' r' (alike_balanced l' l e b.0) g.balanced (omega arith) (omega arith) in
    search arith

-- the mend, where the child that it may join away is a single leaf
mend_left_lowered : (n : ℕ) (l r : Tree) (t : Trimmed) → Balanced (fork n l r) → Lowered (height l) t.tree
    → (size t.tree ≤ leaf_low → height l ≡ zero) → Lowered (height (fork n l r)) (mend_left n t r).tree
unfolding height
mend_left_lowered n l r t b g flat =
    mend_left_cases (λ (u : Trimmed). Lowered (height (fork n l r)) u.tree) n t r
    (λ small _. let z = flat small in joined_lowered (height (fork n l r)) n _ r (put_before_shape (marks t.tree) r) (search arith))
    (λ _ _. rebalance_lowered_left n l r (put_after (first_mark r) t.tree) (drop_first r) b
    (alike_lowered (height l) (put_after (first_mark r) t.tree) t.tree (put_after_shape (first_mark r) t.tree) g) (drop_first_shape r))
    (λ _. rebalance_lowered_left n l r t.tree r b g refl)

-- the mirror image
mend_right_lowered : (n : ℕ) (l r : Tree) (t : Trimmed) → Balanced (fork n l r) → Lowered (height r) t.tree
    → (size t.tree ≤ leaf_low → height r ≡ zero) → Lowered (height (fork n l r)) (mend_right n l t).tree
unfolding height
mend_right_lowered n l r t b g flat =
    mend_right_cases (λ (u : Trimmed). Lowered (height (fork n l r)) u.tree) n l t
    (λ small _. let z = flat small in joined_lowered (height (fork n l r)) n _ l (put_after_shape (marks t.tree) l) (search arith))
    (λ _ _. rebalance_lowered_right n l r (drop_last l) (put_before (last_mark l) t.tree) b (drop_last_shape l)
    (alike_lowered (height r) (put_before (last_mark l) t.tree) t.tree (put_before_shape (last_mark l) t.tree) g))
    (λ _. rebalance_lowered_right n l r l t.tree b refl g)

-- a remove keeps a tree balanced, and lowers it by one level at most
pub remove_lowered : (least i : ℕ) (t : Tree) → 1 ≤ least → least ≤ leaf_least → i < size t → Sized least t → Balanced t
    → Lowered (height t) (remove i t).tree
unfolding remove size height
remove_lowered least i (leaf n xs) pos low h s b = search arith
remove_lowered least i (fork n l r) pos low h s b =
    remove_cases (λ (u : Trimmed). Lowered (height (fork n l r)) u.tree) i n l r
    (λ left.
    let z = remove_size i l left in
    mend_left_lowered n l r (remove i l) b (remove_lowered leaf_least i l (omega arith) (omega arith) left s.0 b.0)
    (λ small. ap height (small_leaf leaf_least l (omega arith) s.0 (omega arith))))
    (λ right.
    let k : i - size l < size r = omega arith in
    let z = remove_size (i - size l) r k in
    mend_right_lowered n l r (remove (i - size l) r) b (remove_lowered least (i - size l) r pos low k s.1 b.1)
    (λ small. ap height (small_leaf least r pos s.1 (omega arith))))

-- the same of a whole tree
pub remove_balanced : (i : ℕ) (t : Tree) → i < size t → Whole t → Balanced t → Lowered (height t) (remove i t).tree
unfolding remove height
remove_balanced i (leaf n xs) h w b = search arith
remove_balanced i (fork n l r) h w b = remove_lowered 1 i (fork n l r) (omega arith) (omega arith) h w b
