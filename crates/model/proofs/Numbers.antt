-- The numbers of a tree's nodes: a turn rearranges them, a split takes the first two free ones, and what a mend joins away it frees.
-- It is said by weights: whatever weight each number has, the tree weighs the same, the taken and freed ones counted in.
use Prim.Native.Nat.{ℕ, zero, ◌+◌, ◌-◌, ◌≤◌, ◌<◌}
use native.Mathlib.Omega.{arith}
use mathlib.Core.Path.{◌≡◌, refl, ap}
use mathlib.Core.Bool.{Bool, true, false}
use mathlib.Core.List.{List, ◌∷◌, ◌++◌}
use lib.Dec.{leb}
use lib.ListN.{length, get_or}
use borrow.Author.Tests.{le-leb, lt-leb}
use Rattle.model.specs.Tree.{Tree, leaf, fork, top, marks, size, numbers, renumber}
use Rattle.model.specs.Turn.{turn_right, turn_left, leaning_left, leaning_right, rebalance}
use Rattle.model.specs.Edit.{leaf_least}
use Rattle.model.specs.Sound.{Sized, Whole}
use Rattle.model.specs.Edit.{leaf_split, leaf_low, leaf_at, splits, settle, insert, put_before, put_after, drop_first, drop_last, first_mark, last_mark, Trimmed, mend_left, mend_right, remove}
use Rattle.model.proofs.Cases.{leaning_left_cases, leaning_right_cases, rebalance_cases, settle_cases, insert_cases, splits_left, splits_right, remove_cases, mend_left_cases, mend_right_cases}
use Rattle.model.proofs.MarksEdits.{length_insert}
use Rattle.model.proofs.Shape.{shape, put_before_shape, put_after_shape, drop_first_shape, drop_last_shape}
use Rattle.model.proofs.LeavesMended.{short_leaf, remove_short}
use Rattle.model.proofs.Rearranged.{weigh, weigh_append, Rearranged}

-- the sum of the weights of a tree's numbers
unfoldable pub weight : (ℕ → ℕ) → Tree → ℕ
weight w (leaf n xs) = w n
weight w (fork n l r) = w n + weight w l + weight w r

-- it is what the list of its numbers weighs
pub numbers_weight : (w : ℕ → ℕ) (t : Tree) → weigh w (numbers t) ≡ weight w t
unfolding weigh numbers weight
numbers_weight w (leaf n xs) = omega arith
numbers_weight w (fork n l r) = simp (weigh_append, numbers_weight w l, numbers_weight w r) (omega arith)

-- a shape has the numbers of its tree
shape_weight : (w : ℕ → ℕ) (t : Tree) → weight w (shape t) ≡ weight w t
unfolding shape weight
shape_weight w (leaf n xs) = refl
shape_weight w (fork n l r) = simp (shape_weight w l, shape_weight w r)

-- trees of one shape have the same numbers
alike_weight : (w : ℕ → ℕ) (t u : Tree) → shape t ≡ shape u → weight w t ≡ weight w u
alike_weight w t u e = cc (shape_weight w t, shape_weight w u)

-- a shape has the number of its tree at the top
shape_top : (t : Tree) → top (shape t) ≡ top t
unfolding shape top
shape_top (leaf n xs) = refl
shape_top (fork n l r) = refl

-- trees of one shape have the same number at the top
alike_top : (t u : Tree) → shape t ≡ shape u → top t ≡ top u
alike_top t u e = cc (shape_top t, shape_top u)

-- ---- turns

-- a turn rearranges the numbers
pub turn_right_weight : (w : ℕ → ℕ) (t : Tree) → weight w (turn_right t) ≡ weight w t
unfolding weight turn_right
turn_right_weight w (leaf n xs) = refl
turn_right_weight w (fork d (leaf b xs) e) = refl
turn_right_weight w (fork d (fork b a c) e) = omega arith

-- so does a turn to the left
pub turn_left_weight : (w : ℕ → ℕ) (t : Tree) → weight w (turn_left t) ≡ weight w t
unfolding weight turn_left
turn_left_weight w (leaf n xs) = refl
turn_left_weight w (fork b a (leaf d xs)) = refl
turn_left_weight w (fork b a (fork d c e)) = omega arith

-- so does the turn of a leaning child
pub leaning_left_weight : (w : ℕ → ℕ) (t : Tree) → weight w (leaning_left t) ≡ weight w t
unfolding leaning_left
leaning_left_weight w (leaf n xs) = refl
leaning_left_weight w (fork n l r) =
    leaning_left_cases (λ (t : Tree). weight w t ≡ weight w (fork n l r)) n l r (λ _. turn_left_weight w (fork n l r)) (λ _. refl)

-- the mirror image
pub leaning_right_weight : (w : ℕ → ℕ) (t : Tree) → weight w (leaning_right t) ≡ weight w t
unfolding leaning_right
leaning_right_weight w (leaf n xs) = refl
leaning_right_weight w (fork n l r) =
    leaning_right_cases (λ (t : Tree). weight w t ≡ weight w (fork n l r)) n l r (λ _. turn_right_weight w (fork n l r)) (λ _. refl)

-- balancing rearranges the numbers
pub rebalance_weight : (w : ℕ → ℕ) (n : ℕ) (l r : Tree) → weight w (rebalance n l r) ≡ w n + weight w l + weight w r
unfolding weight
rebalance_weight w n l r =
    rebalance_cases (λ (t : Tree). weight w t ≡ w n + weight w l + weight w r) n l r
    (λ _. simp (turn_right_weight, leaning_left_weight))
    (λ _. simp (turn_left_weight, leaning_right_weight))
    (λ _ _. refl)

-- ---- insert

-- what the two free numbers weigh that a split takes
unfoldable pub taken : (ℕ → ℕ) → List ℕ → Bool → ℕ
taken w free true = w (get_or free 0 0) + w (get_or free 1 0)
taken w free false = zero

-- a split takes two numbers beside the leaf's own
settle_weight : (w : ℕ → ℕ) (n : ℕ) (xs : List Bool) (free : List ℕ) → weight w (settle n xs free) ≡ w n + taken w free (leb leaf_split (length xs))
unfolding weight taken
settle_weight w n xs free =
    settle_cases (λ (t : Tree). weight w t ≡ w n + taken w free (leb leaf_split (length xs))) n xs free
    (λ full. rw (le-leb leaf_split (length xs) full) (omega arith))
    (λ room. rw (lt-leb leaf_split (length xs) room) (omega arith))

-- an insert takes the first two free numbers where its leaf splits
pub insert_weight : (w : ℕ → ℕ) (i : ℕ) (b : Bool) (free : List ℕ) (t : Tree) → i ≤ size t
    → weight w (insert i b free t) ≡ weight w t + taken w free (splits i t)
unfolding weight insert size splits leaf_at
insert_weight w i b free (leaf n xs) h = rw (settle_weight, length_insert i b xs h)
insert_weight w i b free (fork n l r) h =
    insert_cases (λ (t : Tree). weight w t ≡ w n + weight w l + weight w r + taken w free (splits i (fork n l r))) i b free n l r
    (λ left. simp (rebalance_weight, insert_weight w i b free l (omega arith), splits_left i n l r left) (omega arith))
    (λ right. simp (rebalance_weight, insert_weight w (i - size l) b free r (omega arith), splits_right i n l r right) (omega arith))

-- ---- remove

-- another number at the top frees the one that was there
renumber_weight : (w : ℕ → ℕ) (n : ℕ) (t : Tree) → weight w (renumber n t) + w (top t) ≡ weight w t + w n
unfolding weight renumber top
renumber_weight w n (leaf m xs) = omega arith
renumber_weight w n (fork m l r) = omega arith

-- the same, where marks have been put in too
joined_weight : (w : ℕ → ℕ) (n : ℕ) (t u : Tree) → shape t ≡ shape u → weight w (renumber n t) + w (top u) ≡ weight w u + w n
joined_weight w n t u e = rw (← alike_top t u e, ← alike_weight w t u e) (renumber_weight w n t)

-- what the tree and the freed numbers weigh
unfoldable pub kept : (ℕ → ℕ) → Trimmed → ℕ
kept w t = weight w t.tree + weigh w t.freed

-- what the mend joins away it frees
mend_left_weight : (w : ℕ → ℕ) (n : ℕ) (t : Trimmed) (r : Tree)
    → (size t.tree ≤ leaf_low → t.tree ≡ leaf (top t.tree) (marks t.tree)) → kept w (mend_left n t r) ≡ w n + kept w t + weight w r
unfolding kept weigh weight
mend_left_weight w n t r single =
    mend_left_cases (λ (u : Trimmed). kept w u ≡ w n + kept w t + weight w r) n t r
    (λ small _. omega (arith, ap (weight w) (single small), joined_weight w n _ r (put_before_shape (marks t.tree) r)))
    (λ _ _.
    let kept_left = alike_weight w _ t.tree (put_after_shape (first_mark r) t.tree) in
    let kept_right = alike_weight w _ r (drop_first_shape r) in
    omega (arith, rebalance_weight w n (put_after (first_mark r) t.tree) (drop_first r)))
    (λ _. omega (arith, rebalance_weight w n t.tree r))

-- the mirror image
mend_right_weight : (w : ℕ → ℕ) (n : ℕ) (l : Tree) (t : Trimmed)
    → (size t.tree ≤ leaf_low → t.tree ≡ leaf (top t.tree) (marks t.tree)) → kept w (mend_right n l t) ≡ w n + weight w l + kept w t
unfolding kept weigh weight
mend_right_weight w n l t single =
    mend_right_cases (λ (u : Trimmed). kept w u ≡ w n + weight w l + kept w t) n l t
    (λ small _. omega (arith, ap (weight w) (single small), joined_weight w n _ l (put_after_shape (marks t.tree) l)))
    (λ _ _.
    let kept_left = alike_weight w _ l (drop_last_shape l) in
    let kept_right = alike_weight w _ t.tree (put_before_shape (last_mark l) t.tree) in
    omega (arith, rebalance_weight w n (drop_last l) (put_before (last_mark l) t.tree)))
    (λ _. omega (arith, rebalance_weight w n l t.tree))

-- a remove frees the numbers that the tree no longer has
pub remove_weight_sized : (w : ℕ → ℕ) (least i : ℕ) (t : Tree) → 1 ≤ least → least ≤ leaf_least → i < size t → Sized least t
    → kept w (remove i t) ≡ weight w t
unfolding remove kept weigh weight size
remove_weight_sized w least i (leaf n xs) pos low h s = omega arith
remove_weight_sized w least i (fork n l r) pos low h s =
    remove_cases (λ (u : Trimmed). kept w u ≡ weight w (fork n l r)) i n l r
    (λ left.
    let s' = remove_short leaf_least i l (omega arith) (omega arith) left s.0 in
    let child = remove_weight_sized w leaf_least i l (omega arith) (omega arith) left s.0 in
    omega (arith, mend_left_weight w n (remove i l) r (short_leaf leaf_least (remove i l).tree s')))
    (λ right.
    let h' : i - size l < size r = omega arith in
    let s' = remove_short least (i - size l) r pos low h' s.1 in
    let child = remove_weight_sized w least (i - size l) r pos low h' s.1 in
    omega (arith, mend_right_weight w n l (remove (i - size l) r) (short_leaf least (remove (i - size l) r).tree s')))

-- the same of a whole tree
pub remove_weight : (w : ℕ → ℕ) (i : ℕ) (t : Tree) → i < size t → Whole t → weight w (remove i t).tree + weigh w (remove i t).freed ≡ weight w t
unfolding remove kept weigh weight
remove_weight w i (leaf n xs) h whole = omega arith
remove_weight w i (fork n l r) h whole = remove_weight_sized w 1 i (fork n l r) (omega arith) (omega arith) h whole

-- ---- the same, of the lists of numbers

-- balancing rearranges the numbers
pub rebalance_numbers : (n : ℕ) (l r : Tree) → Rearranged (numbers (fork n l r)) (numbers (rebalance n l r))
unfolding weight
rebalance_numbers n l r w = simp (numbers_weight, rebalance_weight)

-- an insert whose leaf splits adds the first two free numbers
pub insert_numbers_split : (i : ℕ) (b : Bool) (free : List ℕ) (t : Tree) → i ≤ size t → splits i t ≡ true
    → Rearranged (get_or free 0 0 ∷ get_or free 1 0 ∷ numbers t) (numbers (insert i b free t))
unfolding weigh taken
insert_numbers_split i b free t h split w = simp (numbers_weight, insert_weight w i b free t h, split) (omega arith)

-- any other insert keeps the numbers
pub insert_numbers_room : (i : ℕ) (b : Bool) (free : List ℕ) (t : Tree) → i ≤ size t → splits i t ≡ false
    → Rearranged (numbers t) (numbers (insert i b free t))
unfolding taken
insert_numbers_room i b free t h room w = simp (numbers_weight, insert_weight w i b free t h, room) (omega arith)

-- a remove keeps the numbers or frees them
pub remove_numbers : (i : ℕ) (t : Tree) → i < size t → Whole t → Rearranged (numbers t) (numbers (remove i t).tree ++ (remove i t).freed)
remove_numbers i t h whole w = simp (weigh_append, numbers_weight) (omega (arith, remove_weight w i t h whole))
