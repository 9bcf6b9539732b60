-- The machine's count of ones, over the width of the word: it is the number of set bits in the word's list.
use Prim.Native.Nat.{ℕ, ◌^◌, ◌<◌}
use native.Mathlib.Nat.{mod-eq_of_lt}
use mathlib.Core.Path.{◌≡◌, sym, ap, ◌∙◌}
use lib.Count as Count
use Rattle.model.specs.Marks.{ones}
use Rattle.model.specs.Word.{bits}
use Rattle.model.proofs.Words.{ones_bits}

pub counted : (n w : ℕ) → w < 2 ^ n → Count.ones w ≡ ones (bits n w)
counted n w h = ap Count.ones (sym (mod-eq_of_lt h)) ∙ sym (ones_bits n w)
