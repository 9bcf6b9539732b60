-- In-word select over the width: the wanted bits of a word of n bits are the set bits of the word chosen for them, so select is the
-- place of a set bit; and a word of at most 64 bits may be searched as one of 64. Two words are searched one after the other.
use Prim.Native.Nat.{ℕ, ◌+◌, ◌-◌, ◌/◌, ◌^◌, ◌≤◌, ◌<◌}
use native.Mathlib.Nat.{lt_of_lt_of_le}
use native.Mathlib.Omega.{arith}
use mathlib.Core.Path.{◌≡◌, refl, sym, ap, ◌∙◌}
use mathlib.Core.Bool.{Bool, true, false}
use mathlib.Core.List.{◌++◌}
use Rattle.std.specs.Prelude.{Option}
use lib.Pow.{pow_pos, pow_mono}
use Rattle.model.specs.Marks.{ones, place, further, wanted, count, select}
use Rattle.model.specs.Word.{bits}
use Rattle.model.proofs.Counting.{place_in_first, place_none, select_in_first, select_in_second}
use Rattle.model.proofs.Cases.{by_ltb}
use Rattle.model.proofs.Words.{bits_add, bits_length, bits_not}
use Rattle.bits.proofs.Ones.{counted}
use Rattle.select.specs.Select.{chosen}

-- the set bits of the chosen word are the wanted ones
chosen_bits : (n : ℕ) (b : Bool) (w : ℕ) → w < 2 ^ n → bits n (chosen n b w) ≡ wanted b (bits n w)
unfolding wanted
chosen_bits n true w h = refl
chosen_bits n false w h = bits_not n w h

-- it has n bits as well
chosen_fits : (n : ℕ) (b : Bool) (w : ℕ) → w < 2 ^ n → chosen n b w < 2 ^ n
chosen_fits n true w h = h
chosen_fits n false w h = omega (arith, pow_pos n)

pub count_is : (n : ℕ) (b : Bool) (w : ℕ) → w < 2 ^ n → {v : ℕ} → v ≡ chosen n b w → ones (bits n v) ≡ count b (bits n w)
unfolding count
count_is n b w h e = ap ones (ap (bits n) e ∙ chosen_bits n b w h)

-- a word of n bits has no set ones above them, so that it may be searched as one of 64
same_count : (n m : ℕ) → 64 ≡ n + m → (v : ℕ) → v < 2 ^ n → ones (bits n v) ≡ ones (bits 64 v)
same_count n m s v h = sym (counted n v h) ∙ counted 64 v (lt_of_lt_of_le h (pow_mono {j = 64} (omega arith)))

widened : (n m : ℕ) → 64 ≡ n + m → (v : ℕ) → v < 2 ^ n → (k : ℕ) → place k (bits 64 v) ≡ place k (bits n v)
widened n m s v h k =
    let same = same_count n m s v h in
    by_ltb (ones (bits n v)) k
    (λ _ few. place_none k (bits 64 v) (omega arith) ∙ sym (place_none k (bits n v) few))
    (λ _ enough. ap (λ (x : ℕ). place k (bits x v)) s ∙ ap (place k) (bits_add n m v) ∙ place_in_first k (bits n v) (bits m (v / 2 ^ n)) enough)

-- a word of n bits, the bit wanted, and the word v chosen for it
module _ (n m : ℕ) (s : 64 ≡ n + m) (b : Bool) (w : ℕ) (h : w < 2 ^ n) {v : ℕ} (e : v ≡ chosen n b w) where
  -- so many of its bits are set
  pub chosen_count : ones (bits n v) ≡ ones (bits 64 v)
  chosen_count = same_count n m s v (rw e (chosen_fits n b w h))

  -- the k-th wanted bit is its k-th set one
  pub chosen_place : (k : ℕ) → place k (bits 64 v) ≡ select b k (bits n w)
  unfolding select
  chosen_place k =
      widened n m s v (rw e (chosen_fits n b w h)) k ∙ ap (λ (x : ℕ). place k (bits n x)) e ∙ ap (place k) (chosen_bits n b w h)

-- ---- two words

-- m bits of a kind are in the first of two words; the k-th of both is looked for there where it has so many, else in the second
module _ (n : ℕ) (b : Bool) (k low high : ℕ) {m v : ℕ} (c : m ≡ ones (bits n v)) (e : v ≡ chosen n b low) (h : low < 2 ^ n) where
  here : m ≡ count b (bits n low)
  here = c ∙ count_is n b low h e

  pub in_low : k ≤ m → select b k (bits n low) ≡ select b k (bits n low ++ bits n high)
  in_low l = sym (select_in_first b k (bits n low) (bits n high) (rw here at l))

  pub in_high : m < k → {r : Option ℕ} → select b (k - m) (bits n high) ≡ r → further n r ≡ select b k (bits n low ++ bits n high)
  in_high l a =
      ap (further n) (sym a ∙ rw here refl) ∙ sym (rw bits_length at (select_in_second b k (bits n low) (bits n high) (rw here at l)))
