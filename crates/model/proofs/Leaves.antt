-- How full the leaves are. A turn keeps the leaves in their order, so it keeps how full they are; a leaf that splits makes two halves of 64.
-- So an insert keeps the leaves within their bounds.
use Prim.Native.Nat.{ℕ, ◌+◌, ◌-◌, ◌≤◌}
use native.Mathlib.Omega.{arith}
use mathlib.Core.Path.{◌≡◌, refl}
use mathlib.Core.Bool.{Bool}
use mathlib.Core.List.{List}
use lib.ListN.{length, length-take, length-drop}
use Rattle.model.specs.Marks as Marks
use Rattle.model.specs.Tree.{Tree, leaf, fork, top, marks, size}
use Rattle.model.specs.Turn.{turn_right, turn_left, leaning_left, leaning_right, rebalance}
use Rattle.model.specs.Edit.{leaf_least}
use Rattle.model.specs.Sound.{Sized, Whole}
use Rattle.model.specs.Edit.{leaf_split, leaf_half, settle, insert}
use Rattle.model.proofs.Cases.{leaning_left_cases, leaning_right_cases, rebalance_cases, settle_cases, insert_cases}
use Rattle.model.proofs.MarksEdits.{length_insert}

-- ---- what Sized says

-- a smaller demand on the rightmost leaf
pub sized_weaken : (k m : ℕ) (t : Tree) → k ≤ m → Sized m t → Sized k t
sized_weaken k m (leaf n xs) h s = omega arith
sized_weaken k m (fork n l r) h s = (s.0, sized_weaken k m r h s.1)

-- a tree whose rightmost leaf is not empty is whole
pub sized_whole : (t : Tree) → Sized 1 t → Whole t
sized_whole (leaf n xs) s = omega arith
sized_whole (fork n l r) s = s

-- a tree holds at least what its rightmost leaf does
pub sized_size : (least : ℕ) (t : Tree) → Sized least t → least ≤ size t
unfolding size
sized_size least (leaf n xs) s = s.0
sized_size least (fork n l r) s = omega (arith, sized_size least r s.1)

-- a fork holds at least 33 marks more
pub fork_size : (least n : ℕ) (l r : Tree) → Sized least (fork n l r) → leaf_least + least ≤ size (fork n l r)
unfolding size
fork_size least n l r s = omega (arith, sized_size leaf_least l s.0, sized_size least r s.1)

-- a tree of at most 33 marks is a single leaf
pub small_leaf : (least : ℕ) (t : Tree) → 1 ≤ least → Sized least t → size t ≤ leaf_least → t ≡ leaf (top t) (marks t)
unfolding top marks
small_leaf least (leaf n xs) pos s small = refl
small_leaf least (fork n l r) pos s small = absurd (omega (arith, fork_size least n l r s))

-- ---- turns

-- a turn keeps the leaves
pub turn_right_sized : (least : ℕ) (t : Tree) → Sized least t → Sized least (turn_right t)
unfolding turn_right
turn_right_sized least (leaf n xs) s = s
turn_right_sized least (fork d (leaf b xs) e) s = s
turn_right_sized least (fork d (fork b a c) e) s = (s.0.0, (s.0.1, s.1))

-- so does a turn to the left
pub turn_left_sized : (least : ℕ) (t : Tree) → Sized least t → Sized least (turn_left t)
unfolding turn_left
turn_left_sized least (leaf n xs) s = s
turn_left_sized least (fork b a (leaf d xs)) s = s
turn_left_sized least (fork b a (fork d c e)) s = ((s.0, s.1.0), s.1.1)

-- so does the turn of a leaning child
pub leaning_left_sized : (least : ℕ) (t : Tree) → Sized least t → Sized least (leaning_left t)
unfolding leaning_left
leaning_left_sized least (leaf n xs) s = s
leaning_left_sized least (fork n l r) s = leaning_left_cases (Sized least) n l r (λ _. turn_left_sized least (fork n l r) s) (λ _. s)

-- the mirror image
pub leaning_right_sized : (least : ℕ) (t : Tree) → Sized least t → Sized least (leaning_right t)
unfolding leaning_right
leaning_right_sized least (leaf n xs) s = s
leaning_right_sized least (fork n l r) s = leaning_right_cases (Sized least) n l r (λ _. turn_right_sized least (fork n l r) s) (λ _. s)

-- balancing keeps the leaves
pub rebalance_sized : (least n : ℕ) (l r : Tree) → Sized leaf_least l → Sized least r → Sized least (rebalance n l r)
rebalance_sized least n l r p q =
    rebalance_cases (Sized least) n l r
    (λ _. turn_right_sized least (fork n (leaning_left l) r) (leaning_left_sized leaf_least l p, q))
    (λ _. turn_left_sized least (fork n l (leaning_right r)) (p, leaning_right_sized least r q))
    (λ _ _. (p, q))

-- ---- insert

-- a leaf of at most 128 marks, split or not
settle_sized : (least n : ℕ) (xs : List Bool) (free : List ℕ) → least ≤ leaf_least → least ≤ length xs → length xs ≤ leaf_split
    → Sized least (settle n xs free)
settle_sized least n xs free low p q =
    settle_cases (Sized least) n xs free
    (λ full. simp (length-take leaf_half xs, length-drop leaf_half xs) (omega arith))
    (λ room. omega arith)

-- an insert keeps the leaves neither too full nor too empty
pub insert_sized : (least i : ℕ) (b : Bool) (free : List ℕ) (t : Tree) → least ≤ leaf_least → i ≤ size t → Sized least t
    → Sized least (insert i b free t)
unfolding insert size
insert_sized least i b free (leaf n xs) low h s =
    let e = length_insert i b xs h in settle_sized least n (Marks.insert i b xs) free low (omega arith) (omega arith)
insert_sized least i b free (fork n l r) low h s =
    insert_cases (Sized least) i b free n l r
    (λ left. rebalance_sized least n (insert i b free l) r (insert_sized leaf_least i b free l (omega arith) (omega arith) s.0) s.1)
    (λ right. rebalance_sized least n l (insert (i - size l) b free r) s.0 (insert_sized least (i - size l) b free r low (omega arith) s.1))

-- an insert keeps a whole tree whole
pub insert_whole : (i : ℕ) (b : Bool) (free : List ℕ) (t : Tree) → i ≤ size t → Whole t → Whole (insert i b free t)
unfolding insert size
insert_whole i b free (leaf n xs) h w =
    let e = length_insert i b xs h in
    sized_whole (settle n (Marks.insert i b xs) free) (settle_sized 1 n (Marks.insert i b xs) free (omega arith) (omega arith) (omega arith))
insert_whole i b free (fork n l r) h w = sized_whole (insert i b free (fork n l r)) (insert_sized 1 i b free (fork n l r) (omega arith) h w)
