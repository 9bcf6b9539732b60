-- The numbers of a pool, in its tree and in its free chain: an insert and a remove only rearrange them.
-- So a pool keeps as many nodes as it had, and no number comes to stand twice.
use Prim.Native.Nat.{ℕ, ◌+◌, ◌≤◌, ◌<◌}
use native.Mathlib.Omega.{arith}
use mathlib.Core.Path.{◌≡◌}
use mathlib.Core.Bool.{Bool, true}
use mathlib.Core.List.{List, [], ◌∷◌}
use Rattle.std.specs.Prelude.{Option, Some}
use lib.ListN.{length, drop}
unfoldable pub use Rattle.model.specs.Sound.{all_numbers}
use Rattle.model.specs.Tree.{size}
use Rattle.model.specs.Sound.{Whole, Distinct}
use Rattle.model.specs.Edit as Edit
use Rattle.model.specs.Pool.{Pool, insert, remove}
use Rattle.model.proofs.PoolCases.{insert_outcomes}
use Rattle.model.proofs.Numbers.{weight, numbers_weight, taken, insert_weight, remove_weight}
use Rattle.model.proofs.Rearranged.{weigh, weigh_append, Rearranged, rearranged_distinct}

-- they weigh what the tree and the free chain do
pub all_weight : (w : ℕ → ℕ) (p : Pool) → weigh w (all_numbers p) ≡ weight w p.tree + weigh w p.free
unfolding all_numbers
all_weight w p = simp (all_numbers, weigh_append, numbers_weight)

-- a chain of two numbers or more weighs what its first two and the rest do
first_two : (w : ℕ → ℕ) (ns : List ℕ) → 2 ≤ length ns → weigh w ns ≡ taken w ns true + weigh w (drop 2 ns)
unfolding weigh taken
first_two w [] h = absurd (omega arith)
first_two w (a ∷ []) h = absurd (omega arith)
first_two w (a ∷ b ∷ ns) h = omega arith

-- an insert that is not refused rearranges the numbers
pub insert_rearranged : (may : Bool) (i : ℕ) (b : Bool) (p q : Pool) → i ≤ size p.tree → (may ≡ true → 2 ≤ length p.free)
    → insert may i b p ≡ Some q
    → Rearranged (all_numbers p) (all_numbers q)
unfolding taken
insert_rearranged may i b p q h two =
    insert_outcomes (λ (o : Option Pool). o ≡ Some q → Rearranged (all_numbers p) (all_numbers q)) may i b p
    (λ _ _ e. let z : ◌≡◌ {A = ℕ} 0 1 = cc in absurd (omega arith))
    (λ split taken_two e w.
    let z : q ≡ record { tree = Edit.insert i b p.free p.tree; free = drop 2 p.free } = cc in
    simp (z, all_weight, insert_weight w i b p.free p.tree h, split) (omega (arith, first_two w p.free (two taken_two))))
    (λ room e w.
    let z : q ≡ record { tree = Edit.insert i b p.free p.tree; free = p.free } = cc in
    simp (z, all_weight, insert_weight w i b p.free p.tree h, room) (omega arith))

-- so does a remove
pub remove_rearranged : (i : ℕ) (p : Pool) → i < size p.tree → Whole p.tree → Rearranged (all_numbers p) (all_numbers (remove i p))
unfolding remove
remove_rearranged i p h whole w = simp (all_weight, remove, weigh_append) (omega (arith, remove_weight w i p.tree h whole))

-- so no number comes to stand twice
pub insert_distinct : (may : Bool) (i : ℕ) (b : Bool) (p q : Pool) → i ≤ size p.tree → (may ≡ true → 2 ≤ length p.free)
    → insert may i b p ≡ Some q
    → Distinct (all_numbers p) → Distinct (all_numbers q)
insert_distinct may i b p q h two e = rearranged_distinct (all_numbers p) (all_numbers q) (insert_rearranged may i b p q h two e)

-- nor by a remove
pub remove_distinct : (i : ℕ) (p : Pool) → i < size p.tree → Whole p.tree → Distinct (all_numbers p) → Distinct (all_numbers (remove i p))
remove_distinct i p h whole = rearranged_distinct (all_numbers p) (all_numbers (remove i p)) (remove_rearranged i p h whole)
