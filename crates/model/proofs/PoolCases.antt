-- What the pool's build and insert answer, by cases: refused where there is no room, and what they leave where there is.
-- A proof elsewhere names what it shows of the answer and goes by these outcomes.
use Prim.Native.Nat.{ℕ, ◌-◌, ◌≤◌, ◌<◌}
use native.Mathlib.Omega.{arith}
use mathlib.Core.Path.{◌≡◌}
use mathlib.Core.Bool.{Bool, true, false}
use mathlib.Core.List.{List}
use Rattle.std.specs.Prelude.{Option, None, Some}
use lib.ListN.{length, drop}
use borrow.Author.Tests.{leb-true, leb-false}
use Rattle.model.specs.Build as Build
use Rattle.model.specs.Edit as Edit
use Rattle.model.specs.Edit.{splits}
use Rattle.model.specs.Pool.{Pool, numbers_from, nodes_for, build, full, insert, two_free}
use Rattle.model.proofs.Cases.{by_test, by_leb}

-- a build is refused where the tree needs more nodes than there are
pub build_outcomes : (P : Option Pool → Type 0) (n : ℕ) (xs : List Bool) → let need = nodes_for (Build.leaf_count (length xs)) in
    (n < need → P None)
    → (need ≤ n → P (Some (record { tree = Build.build xs; free = numbers_from need (n - need) })))
    → P (build n xs)
unfolding build
build_outcomes P n xs refused room =
    by_leb (nodes_for (Build.leaf_count (length xs))) n (λ e h. rw (build, e) (room h)) (λ e h. rw (build, e) (refused h))

-- an insert is refused where its leaf splits and two numbers may not be taken; else it takes two where its leaf splits, and else none
pub insert_outcomes : (P : Option Pool → Type 0) (may : Bool) (i : ℕ) (b : Bool) (p : Pool)
    → (splits i p.tree ≡ true → may ≡ false → P None)
    → (splits i p.tree ≡ true → may ≡ true → P (Some (record { tree = Edit.insert i b p.free p.tree; free = drop 2 p.free })))
    → (splits i p.tree ≡ false → P (Some (record { tree = Edit.insert i b p.free p.tree; free = p.free })))
    → P (insert may i b p)
unfolding insert full
insert_outcomes P may i b p refused split room =
    by_test (splits i p.tree)
    (λ e. by_test may (λ f. simp (insert, full, e, f) (split e f)) (λ f. simp (insert, full, e, f) (refused e f)))
    (λ e. simp (insert, full, e) (room e))

-- the window's rule
pub two_free_yes : (p : Pool) → two_free p ≡ true → 2 ≤ length p.free
unfolding two_free
two_free_yes p e = omega (arith, leb-true)

pub two_free_no : (p : Pool) → two_free p ≡ false → length p.free < 2
unfolding two_free
two_free_no p e = omega (arith, leb-false)
