-- A leaf has no bit past its marks exactly where it is what is left of it when it is cut there; its strikes are then all its bits that are set.
use Prim.Native.Nat.{ℕ, zero, suc, ◌+◌, ◌-◌, ◌≤◌}
use native.Mathlib.Omega.{arith}
use mathlib.Core.Path.{◌≡◌, refl, sym, ap, ap₂, ◌∙◌}
use mathlib.Core.Bool.{Bool, true, false, ◌&&◌}
use borrow.Author.Tests.{eqb-true, eq-eqb}
use lib.Dec.{eqb}
use Rattle.std.specs.Cmp.{first_so, second_so}
use Rattle.std.specs.Cmp.Derive.{both_true}
use Rattle.model.specs.Says.{Says}
use mathlib.Core.List.{List, ◌++◌}
use lib.ListN.{length, take, replicate, length-append, replicate-append-replicate}
use lib.Seq.{take_all, take-append_seam, length-take-le}
use Rattle.model.specs.Marks.{ones, wanted, count, rank}
use Rattle.model.specs.Word.{bits}
use Rattle.model.proofs.Counting.{ones_append}
use Rattle.model.proofs.Words.{bits_length, bits_zero}
use Rattle.bits.specs.Leaf.{bits_of, leaf_of}
use Rattle.bits.specs.declared.leaf.Leaf.{Leaf}
use Rattle.bits.proofs.Held.{held_bits, leaf_padded}
use Rattle.sound.specs.Part.{held}

-- zeros are no strikes
ones_quiet : (n : ℕ) → ones (replicate n false) ≡ 0
unfolding ones
ones_quiet zero = refl
ones_quiet (suc n) = ones_quiet n

leaf_length : (x : Leaf) → length (bits_of x) ≡ 128
unfolding bits_of
leaf_length x = length-append (bits 64 x.low) (bits 64 x.high) ∙ ap₂ (λ (a b : ℕ). a + b) (bits_length 64 x.low) (bits_length 64 x.high)

module _ (x : Leaf) (n : ℕ) where
  rank_whole : rank true 128 (bits_of x) ≡ ones (bits_of x)
  unfolding rank count wanted
  rank_whole = ap ones (take_all 128 (bits_of x) (omega (arith, leaf_length x)))

  -- a leaf cut after so many marks
  cut_held : leaf_of (held x n ++ bits_of (record { low = 0; high = 0 })) ≡ leaf_of (held x n)
  unfolding bits_of
  cut_held = ap (λ (ys : List Bool). leaf_of (held x n ++ ys)) (ap₂ (λ (xs ys : List Bool). xs ++ ys) (bits_zero 64) (bits_zero 64)
      ∙ replicate-append-replicate 64 64 false) ∙ leaf_padded 128 (held x n)

  -- it is the same leaf exactly where there was nothing to cut
  pub cut_says : {cut : Leaf} {r : Bool} → cut ≡ leaf_of (held x n ++ bits_of (record { low = 0; high = 0 }))
      → r ≡ eqb cut.low x.low && eqb cut.high x.high → Says (x ≡ leaf_of (held x n)) r
  cut_says {cut} {r} e is =
      let all : cut ≡ leaf_of (held x n) = e ∙ cut_held in
      rw is record {
        yes = λ t.
            let low = eqb-true cut.low x.low (first_so (eqb cut.low x.low) (eqb cut.high x.high) t) in
            let high = eqb-true cut.high x.high (second_so (eqb cut.low x.low) (eqb cut.high x.high) t) in
            let same : cut ≡ x = λ i. record { low = low i; high = high i } in
            sym same ∙ all;
        no = λ h. let same : cut ≡ x = all ∙ sym h in
            both_true (eq-eqb cut.low x.low (ap (λ (y : Leaf). y.low) same)) (eq-eqb cut.high x.high (ap (λ (y : Leaf). y.high) same));
      }

  -- as many bits are set as before the end of the marks
  pub held_ends : n ≤ 128 → x ≡ leaf_of (held x n) → count true (held x n) ≡ rank true 128 (bits_of x)
  unfolding count wanted
  held_ends h e =
      let size : length (held x n) ≡ n = length-take-le n (bits_of x) (omega (arith, leaf_length x)) in
      let zeros : bits_of x ≡ held x n ++ replicate (128 - length (held x n)) false = ap bits_of e ∙ held_bits (held x n) (omega arith) in
      let all : ones (bits_of x) ≡ ones (held x n) + ones (replicate (128 - length (held x n)) false) =
      ap ones zeros ∙ ones_append (held x n) (replicate (128 - length (held x n)) false) in
      omega (arith, rank_whole, ones_quiet (128 - length (held x n)))

-- the marks of a leaf that holds them
pub held_of : (xs : List Bool) → length xs ≤ 128 → held (leaf_of xs) (length xs) ≡ xs
held_of xs h = ap (take (length xs)) (held_bits xs h) ∙ take-append_seam xs (replicate (128 - length xs) false)

pub held_length : (x : Leaf) (n : ℕ) → n ≤ 128 → length (held x n) ≡ n
held_length x n h = length-take-le n (bits_of x) (omega (arith, leaf_length x))
