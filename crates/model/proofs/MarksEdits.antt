-- A mark put into, or taken out of, a list of two parts falls into the one or the other part, and changes the length by one.
-- Nothing here knows a tree.
use Prim.Native.Nat.{ℕ, suc, ◌+◌, ◌-◌, ◌≤◌, ◌<◌}
use native.Mathlib.Nat.{add-suc}
use native.Mathlib.Omega.{arith}
use mathlib.Core.Path.{◌≡◌}
use mathlib.Core.Bool.{Bool}
use mathlib.Core.List.{List, ◌++◌, append_assoc}
use lib.ListN.{length, length-append, length-take, length-drop}
use lib.Seq.{take-append-le, drop-append-le, take-append-add, drop-append-add}
use Rattle.model.specs.Marks.{insert, remove}

-- a mark put in at a place of the first part
pub insert_first : (i : ℕ) (b : Bool) (xs ys : List Bool) → i ≤ length xs → insert i b (xs ++ ys) ≡ insert i b xs ++ ys
unfolding insert
insert_first i b xs ys h = simp (take-append-le, drop-append-le, append_assoc)

-- a mark put in at a place of the second part
pub insert_second : (j : ℕ) (b : Bool) (xs ys : List Bool) → insert (length xs + j) b (xs ++ ys) ≡ xs ++ insert j b ys
unfolding insert
insert_second j b xs ys = simp (take-append-add, drop-append-add, append_assoc)

-- the same, with the place counted from the front of both parts
pub insert_past : (i : ℕ) (b : Bool) (xs ys : List Bool) → length xs ≤ i → insert i b (xs ++ ys) ≡ xs ++ insert (i - length xs) b ys
insert_past i b xs ys h =
    let e : length xs + (i - length xs) ≡ i = omega arith in
    rw e at (insert_second (i - length xs) b xs ys)

-- a mark taken out of the first part
pub remove_first : (i : ℕ) (xs ys : List Bool) → i < length xs → remove i (xs ++ ys) ≡ remove i xs ++ ys
unfolding remove
remove_first i xs ys h = let h' : i ≤ length xs = omega arith in simp (take-append-le, drop-append-le, append_assoc)

-- a mark taken out of the second part
pub remove_second : (j : ℕ) (xs ys : List Bool) → remove (length xs + j) (xs ++ ys) ≡ xs ++ remove j ys
unfolding remove
remove_second j xs ys = simp (take-append-add, drop-append-add, append_assoc, ← add-suc)

-- the same, with the place counted from the front of both parts
pub remove_past : (i : ℕ) (xs ys : List Bool) → length xs ≤ i → remove i (xs ++ ys) ≡ xs ++ remove (i - length xs) ys
remove_past i xs ys h =
    let e : length xs + (i - length xs) ≡ i = omega arith in
    rw e at (remove_second (i - length xs) xs ys)

-- one mark more
pub length_insert : (i : ℕ) (b : Bool) (xs : List Bool) → i ≤ length xs → length (insert i b xs) ≡ suc (length xs)
unfolding insert
length_insert i b xs h = simp (length-append, length-take, length-drop) (omega arith)

-- one mark fewer
pub length_remove : (i : ℕ) (xs : List Bool) → i < length xs → suc (length (remove i xs)) ≡ length xs
unfolding remove
length_remove i xs h = simp (length-append, length-take, length-drop) (omega arith)
