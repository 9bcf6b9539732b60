-- A tree's marks are what its leaves hold, left to right, however they are grouped: a turn regroups, and append is associative.
-- So an edit of the tree edits the list of its marks, whatever the balance is; nothing here speaks of heights.
use Prim.Native.Nat.{ℕ, suc, ◌-◌, ◌≤◌, ◌<◌}
use native.Mathlib.Omega.{arith}
use mathlib.Core.Path.{◌≡◌, refl}
use mathlib.Core.Bool.{Bool}
use mathlib.Core.List.{List, ◌++◌, append_assoc}
use lib.ListN.{length, length-append, take-append-drop}
use Rattle.model.specs.Marks as Marks
use Rattle.model.specs.Tree.{Tree, leaf, fork, marks, size, first_leaf, last_leaf, renumber}
use Rattle.model.specs.Turn.{turn_right, turn_left, leaning_left, leaning_right, rebalance}
use Rattle.model.specs.Edit.{leaf_half, settle, insert, put_before, put_after, drop_first, drop_last, first_mark, last_mark, Trimmed, mend_left, mend_right, remove}
use Rattle.model.proofs.Cases.{leaning_left_cases, leaning_right_cases, rebalance_cases, settle_cases, insert_cases, remove_cases, mend_left_cases, mend_right_cases}
use Rattle.model.proofs.MarksEdits.{insert_first, insert_past, remove_first, remove_past, length_insert, length_remove}

-- a tree's size is how many marks it has
pub size_marks : (t : Tree) → size t ≡ length (marks t)
unfolding size marks
size_marks (leaf n xs) = refl
size_marks (fork n l r) = simp (length-append, size_marks l, size_marks r)

-- ---- turns

-- a turn changes no marks
pub turn_right_marks : (t : Tree) → marks (turn_right t) ≡ marks t
unfolding marks turn_right
turn_right_marks (leaf n xs) = refl
turn_right_marks (fork d (leaf b xs) e) = refl
turn_right_marks (fork d (fork b a c) e) = simp append_assoc

-- nor does a turn to the left
pub turn_left_marks : (t : Tree) → marks (turn_left t) ≡ marks t
unfolding marks turn_left
turn_left_marks (leaf n xs) = refl
turn_left_marks (fork b a (leaf d xs)) = refl
turn_left_marks (fork b a (fork d c e)) = simp append_assoc

-- nor does the turn of a leaning child
pub leaning_left_marks : (t : Tree) → marks (leaning_left t) ≡ marks t
unfolding leaning_left
leaning_left_marks (leaf n xs) = refl
leaning_left_marks (fork n l r) =
    leaning_left_cases (λ (t : Tree). marks t ≡ marks (fork n l r)) n l r (λ _. turn_left_marks (fork n l r)) (λ _. refl)

-- the mirror image
pub leaning_right_marks : (t : Tree) → marks (leaning_right t) ≡ marks t
unfolding leaning_right
leaning_right_marks (leaf n xs) = refl
leaning_right_marks (fork n l r) =
    leaning_right_cases (λ (t : Tree). marks t ≡ marks (fork n l r)) n l r (λ _. turn_right_marks (fork n l r)) (λ _. refl)

-- balancing changes no marks
pub rebalance_marks : (n : ℕ) (l r : Tree) → marks (rebalance n l r) ≡ marks l ++ marks r
unfolding marks
rebalance_marks n l r =
    rebalance_cases (λ (t : Tree). marks t ≡ marks l ++ marks r) n l r
    (λ _. simp (turn_right_marks, leaning_left_marks))
    (λ _. simp (turn_left_marks, leaning_right_marks))
    (λ _ _. refl)

-- ---- insert

-- a leaf that splits keeps its marks
pub settle_marks : (n : ℕ) (xs : List Bool) (free : List ℕ) → marks (settle n xs free) ≡ xs
unfolding marks
settle_marks n xs free = settle_cases (λ (t : Tree). marks t ≡ xs) n xs free (λ _. take-append-drop leaf_half xs) (λ _. refl)

-- an insert puts its mark into the list
pub insert_marks : (i : ℕ) (b : Bool) (free : List ℕ) (t : Tree) → i ≤ size t → marks (insert i b free t) ≡ Marks.insert i b (marks t)
unfolding insert marks size
insert_marks i b free (leaf n xs) h = settle_marks n (Marks.insert i b xs) free
insert_marks i b free (fork n l r) h =
    let s = size_marks l in
    insert_cases (λ (t : Tree). marks t ≡ Marks.insert i b (marks l ++ marks r)) i b free n l r
    (λ left. let k : i ≤ length (marks l) = omega arith in simp (rebalance_marks, insert_marks i b free l (omega arith), insert_first))
    (λ right.
    let k : length (marks l) ≤ i = omega arith in
    simp (rebalance_marks, insert_marks (i - size l) b free r (omega arith), insert_past, ← s))

-- ---- remove

-- marks put to either end of a tree stand at that end of its marks
pub put_before_marks : (ys : List Bool) (t : Tree) → marks (put_before ys t) ≡ ys ++ marks t
unfolding put_before marks
put_before_marks ys (leaf n xs) = refl
put_before_marks ys (fork n l r) = simp (put_before_marks ys l, append_assoc)

-- the mirror image
pub put_after_marks : (ys : List Bool) (t : Tree) → marks (put_after ys t) ≡ marks t ++ ys
unfolding put_after marks
put_after_marks ys (leaf n xs) = refl
put_after_marks ys (fork n l r) = simp (put_after_marks ys r, append_assoc)

-- the mark taken off an end, and the rest, are the marks there were
pub drop_first_marks : (t : Tree) → first_mark t ++ marks (drop_first t) ≡ marks t
unfolding first_mark first_leaf drop_first marks
drop_first_marks (leaf n xs) = take-append-drop 1 xs
drop_first_marks (fork n l r) = simp (← append_assoc, drop_first_marks l)

-- the mirror image
pub drop_last_marks : (t : Tree) → marks (drop_last t) ++ last_mark t ≡ marks t
unfolding last_mark last_leaf drop_last marks
drop_last_marks (leaf n xs) = take-append-drop (length xs - 1) xs
drop_last_marks (fork n l r) = simp (append_assoc, drop_last_marks r)

-- another number at the top changes no marks
pub renumber_marks : (k : ℕ) (t : Tree) → marks (renumber k t) ≡ marks t
unfolding renumber marks
renumber_marks k (leaf n xs) = refl
renumber_marks k (fork n l r) = refl

-- joining a child to its neighbour, or lending it a mark, changes no marks
pub mend_left_marks : (n : ℕ) (t : Trimmed) (r : Tree) → marks (mend_left n t r).tree ≡ marks t.tree ++ marks r
mend_left_marks n t r =
    mend_left_cases (λ (u : Trimmed). marks u.tree ≡ marks t.tree ++ marks r) n t r
    (λ _ _. simp (renumber_marks, put_before_marks))
    (λ _ _. simp (rebalance_marks, put_after_marks, append_assoc, drop_first_marks))
    (λ _. simp rebalance_marks)

-- the mirror image
pub mend_right_marks : (n : ℕ) (l : Tree) (t : Trimmed) → marks (mend_right n l t).tree ≡ marks l ++ marks t.tree
mend_right_marks n l t =
    mend_right_cases (λ (u : Trimmed). marks u.tree ≡ marks l ++ marks t.tree) n l t
    (λ _ _. simp (renumber_marks, put_after_marks))
    (λ _ _. simp (rebalance_marks, put_before_marks, ← append_assoc, drop_last_marks))
    (λ _. simp rebalance_marks)

-- a remove takes its mark out of the list
pub remove_marks : (i : ℕ) (t : Tree) → i < size t → marks (remove i t).tree ≡ Marks.remove i (marks t)
unfolding remove marks size
remove_marks i (leaf n xs) h = refl
remove_marks i (fork n l r) h =
    let s = size_marks l in
    remove_cases (λ (u : Trimmed). marks u.tree ≡ Marks.remove i (marks l ++ marks r)) i n l r
    (λ left. let k : i < length (marks l) = omega arith in simp (mend_left_marks, remove_marks i l left, remove_first))
    (λ right. let k : length (marks l) ≤ i = omega arith in simp (mend_right_marks, remove_marks (i - size l) r (omega arith), remove_past, ← s))

-- ---- sizes

-- an insert makes a tree one mark larger
pub insert_size : (i : ℕ) (b : Bool) (free : List ℕ) (t : Tree) → i ≤ size t → size (insert i b free t) ≡ suc (size t)
insert_size i b free t h = let m = size_marks t in simp (size_marks, insert_marks i b free t h) (length_insert i b (marks t) (omega arith))

-- a remove makes it one mark smaller
pub remove_size : (i : ℕ) (t : Tree) → i < size t → suc (size (remove i t).tree) ≡ size t
remove_size i t h = let m = size_marks t in simp (size_marks, remove_marks i t h) (length_remove i (marks t) (omega arith))
