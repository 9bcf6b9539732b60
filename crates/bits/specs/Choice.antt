-- One of two numbers, chosen by a test.
use Rattle.std.specs.Prelude.{ℕ, ◌≡◌, Bool, true, false}

-- r is the first of two numbers where a test passed, and the other one where it failed
pub record Picked (first : Bool) (a b r : ℕ) : Type 0 where
  pub one : first ≡ true → r ≡ a
  pub other : first ≡ false → r ≡ b
