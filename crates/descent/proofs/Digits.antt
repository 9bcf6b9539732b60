-- A mark as a number: how the strikes of a list count it, and how a word of the code holds it.
use Prim.Native.Nat.{ℕ, ◌+◌, ◌<◌, ◌^◌}
use native.Mathlib.Omega.{arith}
use mathlib.Core.Path.{◌≡◌, refl}
use mathlib.Core.Bool.{Bool, true, false}
use mathlib.Core.List.{List, ◌∷◌}
use mir.Syntax.{w64}
use mir.Val.{Fits, bool_byte}
use Rattle.model.specs.Marks.{count, ones, wanted}
use Rattle.model.specs.Word.{digit}

pub count_cons : (b : Bool) (xs : List Bool) → count true (b ∷ xs) ≡ digit b + count true xs
unfolding count wanted ones digit
count_cons true xs = omega arith
count_cons false xs = omega arith

pub byte_digit : (b : Bool) → bool_byte b ≡ digit b
unfolding digit
byte_digit true = refl
byte_digit false = refl

-- a number that one more fits a word fits it with a mark more
pub byte_fits : (n : ℕ) (b : Bool) → n + 1 < 2 ^ 64 → Fits w64 (n + bool_byte b)
byte_fits n true h = omega arith
byte_fits n false h = omega arith
