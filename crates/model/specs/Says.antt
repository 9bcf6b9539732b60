-- What a yes or no says: a fact holds, or it does not.
use Rattle.std.specs.Prelude.{◌≡◌, Bool, true}

-- true exactly where the fact holds
pub record Says (P : Type 0) (r : Bool) : Type 0 where
  pub yes : r ≡ true → P
  pub no : P → r ≡ true
