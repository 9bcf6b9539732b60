-- Some edits change marks alone and leave every node where it stands: putting marks at an end of the tree, and taking one off.
-- Trees of one shape are equally high, and balanced together; and another number at the top changes neither height nor balance.
use Prim.Native.Nat.{ℕ}
use native.Mathlib.Omega.{arith}
use mathlib.Core.Path.{◌≡◌, refl}
use mathlib.Core.Bool.{Bool}
use mathlib.Core.List.{List, []}
use Rattle.model.specs.Tree.{Tree, leaf, fork, top, height, numbers, renumber}
use Rattle.model.specs.Sound.{Balanced}
use Rattle.model.specs.Edit.{put_before, put_after, drop_first, drop_last}

-- the tree without its marks
unfoldable pub shape : Tree → Tree
shape (leaf n xs) = leaf n []
shape (fork n l r) = fork n (shape l) (shape r)

-- a shape is as high as its tree
shape_height : (t : Tree) → height (shape t) ≡ height t
unfolding shape height
shape_height (leaf n xs) = refl
shape_height (fork n l r) = simp (shape_height l, shape_height r)

-- trees of one shape are equally high
pub alike_height : (t u : Tree) → shape t ≡ shape u → height t ≡ height u
alike_height t u e = cc (shape_height t, shape_height u)

-- a shape has its tree's numbers
shape_numbers : (t : Tree) → numbers (shape t) ≡ numbers t
unfolding shape numbers
shape_numbers (leaf n xs) = refl
shape_numbers (fork n l r) = simp (shape_numbers l, shape_numbers r)

-- trees of one shape have the same numbers
pub alike_numbers : (t u : Tree) → shape t ≡ shape u → numbers t ≡ numbers u
alike_numbers t u e = cc (shape_numbers t, shape_numbers u)

shape_top : (t : Tree) → top (shape t) ≡ top t
unfolding shape top
shape_top (leaf n xs) = refl
shape_top (fork n l r) = refl

-- and the same number at the top
pub alike_top : (t u : Tree) → shape t ≡ shape u → top t ≡ top u
alike_top t u e = cc (shape_top t, shape_top u)

-- trees of one shape are balanced together
pub alike_balanced : (t u : Tree) → shape t ≡ shape u → Balanced u → Balanced t
unfolding shape
alike_balanced (leaf n xs) u e b = tt
alike_balanced (fork n l r) (leaf k ys) e b = let z : ◌≡◌ {A = ℕ} 0 1 = cc in absurd (omega arith)
alike_balanced (fork n l r) (fork k c d) e b =
    let p : shape l ≡ shape c = cc in
    let q : shape r ≡ shape d = cc in
    let bl = alike_balanced l c p b.0 in
    let br = alike_balanced r d q b.1 in
    rw (alike_height l c p, alike_height r d q) (search)

-- ---- what keeps the shape

-- marks put before the first leaf
pub put_before_shape : (ys : List Bool) (t : Tree) → shape (put_before ys t) ≡ shape t
unfolding shape put_before
put_before_shape ys (leaf n xs) = refl
put_before_shape ys (fork n l r) = simp (put_before_shape ys l)

-- marks put after the last leaf
pub put_after_shape : (ys : List Bool) (t : Tree) → shape (put_after ys t) ≡ shape t
unfolding shape put_after
put_after_shape ys (leaf n xs) = refl
put_after_shape ys (fork n l r) = simp (put_after_shape ys r)

-- the first mark taken off
pub drop_first_shape : (t : Tree) → shape (drop_first t) ≡ shape t
unfolding shape drop_first
drop_first_shape (leaf n xs) = refl
drop_first_shape (fork n l r) = simp (drop_first_shape l)

-- the last mark taken off
pub drop_last_shape : (t : Tree) → shape (drop_last t) ≡ shape t
unfolding shape drop_last
drop_last_shape (leaf n xs) = refl
drop_last_shape (fork n l r) = simp (drop_last_shape r)

-- ---- another number at the top

-- it leaves the height
pub renumber_height : (k : ℕ) (t : Tree) → height (renumber k t) ≡ height t
unfolding height renumber
renumber_height k (leaf n xs) = refl
renumber_height k (fork n l r) = refl

-- it leaves the balance
pub renumber_balanced : (k : ℕ) (t : Tree) → Balanced t → Balanced (renumber k t)
unfolding renumber
renumber_balanced k (leaf n xs) b = b
renumber_balanced k (fork n l r) b = b
