-- There is room where two nodes may be taken, and else where the leaf that the place leads to does not split.
use Prim.Native.Nat.{ℕ, suc, ◌+◌}
use native.Mathlib.Omega.{arith}
use mathlib.Core.Path.{◌≡◌, refl}
use mathlib.Core.Bool.{Bool, true, false, not, ◌&&◌}
use borrow.Author.Tests.{lt-ltb, le-ltb}
use lib.Dec.{leb, ltb}
use lib.ListN.{length}
use Rattle.model.specs.Edit.{leaf_at, splits}
use Rattle.model.specs.Pool.{Pool, full}
use Rattle.model.proofs.Cases.{by_leb}

always : (b : Bool) → true ≡ not (b && false)
always true = refl
always false = refl

pub room_given : (may : Bool) (i : ℕ) (p : Pool) → may ≡ true → true ≡ not (full may i p)
unfolding full
room_given may i p e = rw (full, e) (always (splits i p.tree))

below_split : (k : ℕ) → ltb (k + 1) 128 ≡ not (leb 128 (suc k) && true)
below_split k =
    by_leb 128 (suc k)
    (λ e h. rw (e, le-ltb (k + 1) 128 (omega arith)))
    (λ e h. rw (e, lt-ltb (k + 1) 128 (omega arith)))

pub room_in_leaf : (may : Bool) (i k : ℕ) (p : Pool) → may ≡ false → k ≡ length (leaf_at i p.tree) → ltb (k + 1) 128 ≡ not (full may i p)
unfolding full splits
room_in_leaf may i k p few e = rw (full, splits, few, ← e) (below_split k)
