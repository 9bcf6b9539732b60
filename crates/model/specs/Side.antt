-- One of two, by whether it is the left one: what is said over a side is said once for both.
use Rattle.std.specs.Prelude.{Bool, true, false}

abbrev pub side : {A : Type 0} → Bool → A → A → A
side true x y = x
side false x y = y
