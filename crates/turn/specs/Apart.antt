-- Signed numbers as differences of natural ones: a balance is right height less left height, and a change is a height
-- less the one before.
use Rattle.std.specs.Prelude.{ℕ, suc, ◌+◌, ◌≤◌, max, ◌≡◌, ℤ, pos, negsuc, nat_abs}
use Rattle.turn.specs.declared.turning.Turned.{Turned}

abbrev apart : ℤ → ℕ → ℕ → Type 0
apart (pos n) x y = x ≡ y + n
apart (negsuc n) x y = y ≡ x + suc n

-- z is x less y
pub record Apart (z : ℤ) (x y : ℕ) : Type 0 where
  pub is : apart z x y

-- z is neither greater than k nor less than its negative
abbrev pub Within : ℕ → ℤ → Type 0
Within k z = nat_abs z ≤ k

-- What a turn makes of the heights of A, C and E, where the node over C and E is lowered to the one over A and C: the
-- balances of the lowered node and of the top, seen from A, and by how much the whole has grown.
pub record Balances (t : Turned) (a c e : ℕ) : Type 0 where
  pub lowered : Apart t.lowered a c
  pub risen : Apart t.risen (suc (max a c)) e
  pub change : Apart t.change (suc (max (suc (max a c)) e)) (suc (max a (suc (max c e))))
