-- A leaf that holds marks xs is `leaf_of xs`: its bits are xs and then zeros. So each call on it, at a length and a place at which it
-- is meant, gives the leaf that holds the edited marks, or the list's own answer. The places 127 and the lengths 127 and 128 are
-- among them.
use Prim.Native.Nat.{ℕ, zero, suc, ◌+◌, ◌-◌, ◌≤◌, ◌<◌}
use native.Mathlib.Nat.{div-eq_of_lt}
use native.Mathlib.Omega.{arith}
use mathlib.Core.Path.{◌≡◌, refl, sym, ap, ap₂, ◌∙◌}
use mathlib.Core.Bool.{Bool, false}
use mathlib.Core.List.{List, [], ◌∷◌, ◌++◌, append_assoc, append-nil}
use lib.ListN.{length, take, drop, get_or, replicate, replicate-append-replicate, length-drop, drop_of_length-le, take-append-drop}
use lib.Seq.{drop-nil, take-append-le, take-append_seam, take_all, length-take-le}
use Rattle.model.specs.Marks.{access, count, insert, rank, remove, select}
use Rattle.model.specs.Word.{bits, number}
use Rattle.model.proofs.Cases.{by_ltb}
use Rattle.model.proofs.Counting.{select_in_first}
use Rattle.model.proofs.MarksEdits.{insert_first, remove_first}
use Rattle.model.proofs.Words.{bits_number, bits_add, bits_zero, number_lt}
use Rattle.bits.specs.Leaf.{packed, leaf_of, bits_of, halves_of}
use Rattle.bits.proofs.Packed.{packed_padded}

-- zeros that a drop leaves of padded marks
drop_padded : (n m : ℕ) (xs : List Bool) → (k : ℕ) × (drop n (xs ++ replicate m false) ≡ drop n xs ++ replicate k false)
drop_padded zero m xs = (m, refl)
drop_padded (suc n) zero [] = (0, refl)
drop_padded (suc n) (suc m) [] = let d = drop_padded n m [] in (d.0, d.1 ∙ ap (λ (ys : List Bool). ys ++ replicate d.0 false) (drop-nil n))
drop_padded (suc n) m (x ∷ xs) = drop_padded n m xs

-- zeros past the marks change no leaf
pub leaf_padded : (m : ℕ) (xs : List Bool) → leaf_of (xs ++ replicate m false) ≡ leaf_of xs
unfolding leaf_of
leaf_padded m xs =
    let d = drop_padded 64 m xs in
    λ i. record { low = packed_padded m xs i; high = (ap packed d.1 ∙ packed_padded d.0 (drop 64 xs)) i }

-- the bits of a word that holds at most 64 marks
word_bits : (xs : List Bool) → length xs ≤ 64 → bits 64 (packed xs) ≡ xs ++ replicate (64 - length xs) false
unfolding packed
word_bits xs h =
    let n : ℕ = length xs in
    let width : 64 ≡ n + (64 - n) = omega arith in
    ap (λ (ys : List Bool). bits 64 (number ys)) (take_all 64 xs h)
    ∙ ap (λ (k : ℕ). bits k (number xs)) width ∙ bits_add n (64 - n) (number xs)
    ∙ ap₂ (λ (ys zs : List Bool). ys ++ zs) (bits_number xs) (ap (bits (64 - n)) (div-eq_of_lt (number_lt xs)) ∙ bits_zero (64 - n))

-- a word holds the first 64 of many marks
first_bits : (xs : List Bool) → 64 ≤ length xs → bits 64 (packed xs) ≡ take 64 xs
unfolding packed
first_bits xs h = rw (length-take-le 64 xs h) at (bits_number (take 64 xs))

-- the bits of a leaf that holds at most 128 marks
pub held_bits : (xs : List Bool) → length xs ≤ 128 → bits_of (leaf_of xs) ≡ xs ++ replicate (128 - length xs) false
unfolding bits_of leaf_of
held_bits xs h = by_ltb (length xs) 64 (λ e l. few l) (λ e l. many l)
  where
    few : length xs < 64 → bits 64 (packed xs) ++ bits 64 (packed (drop 64 xs)) ≡ xs ++ replicate (128 - length xs) false
    few l =
        let width : (64 - length xs) + 64 ≡ 128 - length xs = omega arith in
        let nothing = ap (λ (ys : List Bool). bits 64 (packed ys)) (drop_of_length-le xs {i = 64} (omega arith)) ∙ word_bits [] (omega arith) in
        ap₂ (λ (ys zs : List Bool). ys ++ zs) (word_bits xs (omega arith)) nothing
        ∙ append_assoc xs (replicate (64 - length xs) false) (replicate 64 false)
        ∙ ap (λ (ys : List Bool). xs ++ ys) (replicate-append-replicate (64 - length xs) 64 false ∙ ap (λ (n : ℕ). replicate n false) width)

    many : 64 ≤ length xs → bits 64 (packed xs) ++ bits 64 (packed (drop 64 xs)) ≡ xs ++ replicate (128 - length xs) false
    many l =
        let rest : length (drop 64 xs) ≡ length xs - 64 = length-drop 64 xs in
        let width : 64 - length (drop 64 xs) ≡ 128 - length xs = omega arith in
        ap₂ (λ (ys zs : List Bool). ys ++ zs) (first_bits xs l) (word_bits (drop 64 xs) (omega arith))
        ∙ sym (append_assoc (take 64 xs) (drop 64 xs) (replicate (64 - length (drop 64 xs)) false))
        ∙ ap₂ (λ (ys : List Bool) (n : ℕ). ys ++ replicate n false) (take-append-drop 64 xs) width

getD_padded : (i m : ℕ) (xs : List Bool) → get_or (xs ++ replicate m false) i false ≡ get_or xs i false
getD_padded i zero [] = refl
getD_padded zero (suc m) [] = refl
getD_padded (suc i) (suc m) [] = getD_padded i m []
getD_padded zero m (x ∷ xs) = refl
getD_padded (suc i) m (x ∷ xs) = getD_padded i m xs

-- ---- each call on a leaf that holds marks

module _ (xs : List Bool) where
  pub insert_held : (i : ℕ) (b : Bool) → length xs ≤ 127 → i ≤ length xs → leaf_of (insert i b (bits_of (leaf_of xs))) ≡ leaf_of (insert i b xs)
  insert_held i b h l =
      ap (λ (ys : List Bool). leaf_of (insert i b ys)) (held_bits xs (omega arith))
      ∙ ap leaf_of (insert_first i b xs (replicate (128 - length xs) false) l) ∙ leaf_padded (128 - length xs) (insert i b xs)

  pub remove_held : (i : ℕ) → length xs ≤ 128 → i < length xs → leaf_of (remove i (bits_of (leaf_of xs))) ≡ leaf_of (remove i xs)
  remove_held i h l =
      ap (λ (ys : List Bool). leaf_of (remove i ys)) (held_bits xs h)
      ∙ ap leaf_of (remove_first i xs (replicate (128 - length xs) false) l) ∙ leaf_padded (128 - length xs) (remove i xs)

  pub join_held : (ys : List Bool) → length xs + length ys ≤ 128
      → leaf_of (take (length xs) (bits_of (leaf_of xs)) ++ bits_of (leaf_of ys)) ≡ leaf_of (xs ++ ys)
  join_held ys h =
      ap₂ (λ (us vs : List Bool). leaf_of (take (length xs) us ++ vs)) (held_bits xs (omega arith)) (held_bits ys (omega arith))
      ∙ ap (λ (us : List Bool). leaf_of (us ++ (ys ++ replicate (128 - length ys) false))) (take-append_seam xs (replicate (128 - length xs) false))
      ∙ ap leaf_of (sym (append_assoc xs ys (replicate (128 - length ys) false))) ∙ leaf_padded (128 - length ys) (xs ++ ys)

  -- a leaf of 128 marks is split in the middle
  pub split_held : length xs ≡ 128 → halves_of (bits_of (leaf_of xs)) ≡ halves_of xs
  split_held e = ap halves_of (held_bits xs (omega arith) ∙ rw e (append-nil xs))

  pub rank_held : (b : Bool) (end : ℕ) → length xs ≤ 128 → end ≤ length xs → rank b end (bits_of (leaf_of xs)) ≡ rank b end xs
  unfolding rank
  rank_held b end h l =
      ap (λ (ys : List Bool). count b (take end ys)) (held_bits xs h)
      ∙ ap (count b) (take-append-le end xs (replicate (128 - length xs) false) l)

  -- past the marks both are quiet
  pub access_held : (i : ℕ) → length xs ≤ 128 → access i (bits_of (leaf_of xs)) ≡ access i xs
  unfolding access
  access_held i h = ap (λ (ys : List Bool). get_or ys i false) (held_bits xs h) ∙ getD_padded i (128 - length xs) xs

  -- the k-th mark, where there are as many: the zeros past the marks are not reached
  pub select_held : (b : Bool) (k : ℕ) → length xs ≤ 128 → k ≤ count b xs → select b k (bits_of (leaf_of xs)) ≡ select b k xs
  select_held b k h l = ap (select b k) (held_bits xs h) ∙ select_in_first b k xs (replicate (128 - length xs) false) l
