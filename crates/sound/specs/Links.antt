-- A chain of free nodes that stands in some node words.
use Rattle.std.specs.Prelude.{ℕ, ◌≡◌, List, length}
use Rattle.pool.specs.Layout.{Chained, first_of}

-- a chain of so many free nodes that begins at n and ends at `end`
pub record Links (w : List ℕ) (end n amount : ℕ) (ks : List ℕ) : Type 0 where
  pub chained : Chained w end ks
  pub begins : first_of end ks ≡ n
  pub counts : length ks ≡ amount

-- there is such a chain
abbrev pub Linked : List ℕ → ℕ → ℕ → ℕ → Type 0
Linked w end n amount = (ks : List ℕ) × Links w end n amount ks
