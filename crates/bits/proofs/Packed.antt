-- Words as lists of marks: what stands in a word after a shift and an or, and what a word holds of a list.
use Prim.Native.Nat.{ℕ, zero, suc, ◌+◌, ◌-◌, ◌*◌, ◌/◌, ◌%◌, ◌^◌, ◌≤◌, ◌<◌}
use native.Mathlib.Nat.{mod-eq_of_lt, mod-lt, lt_of_lt_of_le, lt_trans, mul-mod_left, add-zero, add_comm, one-mul, mul_assoc, pow-suc}
use native.Mathlib.Numerals.{add-one}
use native.Mathlib.Omega.{arith}
use mathlib.Core.Path.{◌≡◌, refl, sym, ap, ap₂, ◌∙◌}
use mathlib.Core.Bool.{Bool, true, false}
use mathlib.Core.List.{List, [], ◌∷◌, ◌++◌}
use lib.Arith.{digits_div, digits_mod, digits_lt}
use lib.Count as Count
use lib.Bits.{bit_or, or_shifted}
use lib.ListN.{length, take, drop, replicate}
use lib.Pow.{pow_pos, pow_mono, pow-lt, mod-pow-add, shl-shr, shr-shr, shr_lt, pow-add, split}
use lib.Seq.{take_all, take-append-le}
use mir.Val.{bool_byte}
use Rattle.model.specs.Marks.{insert, ones, remove}
use Rattle.model.specs.Word.{odd, bits, digit, number}
use Rattle.model.proofs.Words.{ones_bits, bits_join, bits_length, bits_mod, take_bits, drop_bits, number_bits, digit_lt, odd_digit}
use Rattle.bits.specs.Leaf.{packed}

-- ---- shifts

-- a shift up by s and an or with s low digits put a number above those digits, as far as the word reaches
pub shl_or : (s t high low : ℕ) → 64 ≡ t + s → low < 2 ^ s → bit_or ((high * 2 ^ s) % 2 ^ 64) low ≡ (high * 2 ^ s + low) % 2 ^ 64
shl_or s t high low e h =
    let above : (high * 2 ^ s) % 2 ^ 64 ≡ high % 2 ^ t * 2 ^ s =
    ap (λ (n : ℕ). (high * 2 ^ s) % 2 ^ n) e ∙ mod-pow-add (high * 2 ^ s) t s
    ∙ ap₂ (λ (x y : ℕ). x % 2 ^ t * 2 ^ s + y) (shl-shr high s) (mul-mod_left high (2 ^ s)) ∙ add-zero _ in
    let both : (high * 2 ^ s + low) % 2 ^ 64 ≡ high % 2 ^ t * 2 ^ s + low =
    ap (λ (n : ℕ). (high * 2 ^ s + low) % 2 ^ n) e ∙ mod-pow-add (high * 2 ^ s + low) t s
    ∙ ap₂ (λ (x y : ℕ). x % 2 ^ t * 2 ^ s + y) (digits_div high h) (digits_mod high h) in
    ap (λ (x : ℕ). bit_or x low) above ∙ or_shifted (high % 2 ^ t) s low h ∙ sym both

-- a one shifted up
pub one_shl : (n : ℕ) → n < 64 → (1 * 2 ^ n) % 2 ^ 64 ≡ 2 ^ n
one_shl n h = ap (λ (x : ℕ). x % 2 ^ 64) (one-mul (2 ^ n)) ∙ mod-eq_of_lt (pow-lt {j = 64} h)

-- a bit as the machine counts it
pub digit_byte : (b : Bool) → bool_byte b ≡ digit b
unfolding digit
digit_byte true = refl
digit_byte false = refl

-- ---- what a word holds

pub packed_bits : (m w : ℕ) → packed (bits (64 + m) w) ≡ w % 2 ^ 64
unfolding packed
packed_bits m w = ap number (take_bits 64 (64 + m) w (omega arith)) ∙ number_bits 64 w

pub packed_own : (w : ℕ) → w < 2 ^ 64 → packed (bits 64 w) ≡ w
packed_own w h = packed_bits 0 w ∙ mod-eq_of_lt h

-- marks past the 64th are not held
pub packed_enough : (xs ys : List Bool) → 64 ≤ length xs → packed (xs ++ ys) ≡ packed xs
unfolding packed
packed_enough xs ys h = ap number (take-append-le 64 xs ys h)

-- zeros after the marks change nothing
number_padded : (n m : ℕ) (xs : List Bool) → number (take n (xs ++ replicate m false)) ≡ number (take n xs)
unfolding number digit
number_padded zero m xs = refl
number_padded (suc n) zero [] = refl
number_padded (suc n) (suc m) [] = ap (λ (x : ℕ). x * 2 + 0) (number_padded n m [] ∙ nothing n)
  where
    nothing : (k : ℕ) → number (take k []) ≡ 0
    nothing zero = refl
    nothing (suc k) = refl
number_padded (suc n) m (x ∷ xs) = ap (λ (y : ℕ). y * 2 + digit x) (number_padded n m xs)

pub packed_padded : (m : ℕ) (xs : List Bool) → packed (xs ++ replicate m false) ≡ packed xs
unfolding packed
packed_padded m xs = number_padded 64 m xs

-- ---- edits of one word

-- a mark put in among the bits of a number
insert_bits : (at n w : ℕ) (b : Bool) → insert at b (bits (at + n) w) ≡ bits (at + suc n) ((w / 2 ^ at * 2 + digit b) * 2 ^ at + w % 2 ^ at)
unfolding insert bits
insert_bits at n w b =
    ap₂ (λ (x y : List Bool). x ++ b ∷ y) (take_bits at (at + n) w (omega arith)) (drop_bits at n w)
    ∙ sym
    (bits_join at (suc n) (w / 2 ^ at * 2 + digit b) (w % 2 ^ at) (mod-lt w (pow_pos at))
    ∙ ap₂ (λ (x y : List Bool). x ++ y) (bits_mod at w)
    (ap₂ {C = List Bool} (λ x y. x ∷ y) (odd_digit (w / 2 ^ at) b) (ap (bits n) (digits_div (w / 2 ^ at) (digit_lt b)))))

-- a mark taken out of them
remove_bits : (at n w : ℕ) → remove at (bits (at + suc n) w) ≡ bits (at + n) (w / 2 ^ at / 2 * 2 ^ at + w % 2 ^ at)
unfolding remove
remove_bits at n w =
    let past : at + suc n ≡ suc at + n = omega arith in
    let half : w / 2 ^ suc at ≡ w / 2 ^ at / 2 = rw (← add-one at) (sym (shr-shr w at 1)) in
    ap₂ (λ (x y : List Bool). x ++ y) (take_bits at (at + suc n) w (omega arith))
    (ap (λ (m : ℕ). drop (suc at) (bits m w)) past ∙ drop_bits (suc at) n w ∙ ap (bits n) half)
    ∙ sym (bits_join at n (w / 2 ^ at / 2) (w % 2 ^ at) (mod-lt w (pow_pos at))
    ∙ ap (λ (x : List Bool). x ++ bits n (w / 2 ^ at / 2)) (bits_mod at w))

one_bit : (b : Bool) → bits 1 (digit b) ≡ b ∷ []
unfolding bits odd digit
one_bit true = refl
one_bit false = refl

digit_above : (b : Bool) (p r : ℕ) → r < p → digit b * p + r < 2 * p
unfolding digit
digit_above true p r h = omega arith
digit_above false p r h = omega arith

module _ (at : ℕ) (h : at < 64) (w : ℕ) where
  below : w % 2 ^ at < 2 ^ at
  below = mod-lt w (pow_pos at)

  -- the n lowest of the first 64 bits, for a number that is at most 64
  pub joined_word : (v : ℕ) → bit_or ((v * 2 ^ at) % 2 ^ 64) (w % 2 ^ at) ≡ packed (take at (bits 64 w) ++ bits 64 v)
  joined_word v =
      shl_or at (64 - at) v (w % 2 ^ at) (omega arith) below
      ∙ sym (packed_bits at (v * 2 ^ at + w % 2 ^ at))
      ∙ ap packed (ap (λ (n : ℕ). bits n (v * 2 ^ at + w % 2 ^ at)) (add_comm 64 at) ∙ bits_join at 64 v (w % 2 ^ at) below
      ∙ ap (λ (xs : List Bool). xs ++ bits 64 v) (bits_mod at w ∙ sym (take_bits at 64 w (omega arith))))

  module _ (l : w < 2 ^ 64) (b : Bool) where
    pub inserted_word : bit_or ((w / 2 ^ at * 2 ^ at) % 2 ^ 64 * 2 % 2 ^ 64) (bit_or ((digit b * 2 ^ at) % 2 ^ 64) (w % 2 ^ at))
        ≡ packed (insert at b (bits 64 w))
    inserted_word =
        let low : ℕ = digit b * 2 ^ at + w % 2 ^ at in
        let small : low < 2 ^ suc at = omega (arith, digit_above b (2 ^ at) (w % 2 ^ at) below) in
        let above : (w / 2 ^ at * 2 ^ at) % 2 ^ 64 ≡ w / 2 ^ at * 2 ^ at = mod-eq_of_lt (omega (arith, split w at)) in
        let moved : w / 2 ^ at * 2 ^ at * 2 ≡ w / 2 ^ at * 2 ^ suc at = rw (pow-suc 2 at) (mul_assoc (w / 2 ^ at) (2 ^ at) 2) in
        let put : bit_or ((digit b * 2 ^ at) % 2 ^ 64) (w % 2 ^ at) ≡ low =
        shl_or at (64 - at) (digit b) (w % 2 ^ at) (omega arith) below ∙ mod-eq_of_lt (lt_of_lt_of_le small (pow_mono {j = 64} h)) in
        let value : w / 2 ^ at * 2 ^ suc at + low ≡ (w / 2 ^ at * 2 + digit b) * 2 ^ at + w % 2 ^ at = rw (← moved) (omega arith) in
        let width : 64 ≡ at + (64 - at) = omega arith in
        let longer : at + suc (64 - at) ≡ 64 + 1 = omega arith in
        let edited = ap (λ (n : ℕ). insert at b (bits n w)) width ∙ insert_bits at (64 - at) w b in
        rw (above, moved, put)
        (shl_or (suc at) (63 - at) (w / 2 ^ at) low (omega arith) small
        ∙ ap (λ (x : ℕ). x % 2 ^ 64) value
        ∙ sym (packed_bits 1 ((w / 2 ^ at * 2 + digit b) * 2 ^ at + w % 2 ^ at))
        ∙ ap packed (sym (edited ∙ ap (λ (n : ℕ). bits n ((w / 2 ^ at * 2 + digit b) * 2 ^ at + w % 2 ^ at)) longer)))

    pub removed_word : bit_or ((digit b * 2 ^ 63) % 2 ^ 64) (bit_or ((w / 2 ^ at / 2 * 2 ^ at) % 2 ^ 64) (w % 2 ^ at))
        ≡ packed (remove at (bits 64 w) ++ b ∷ [])
    removed_word =
        let low : ℕ = w / 2 ^ at / 2 * 2 ^ at + w % 2 ^ at in
        let width : 64 ≡ at + suc (63 - at) = omega arith in
        let shorter : at + (63 - at) ≡ 63 = omega arith in
        let back : (63 - at) + at ≡ 63 = omega arith in
        let total : (63 - at) + (at + 1) ≡ 64 = omega arith in
        let high : w / 2 ^ at / 2 < 2 ^ (63 - at) = rw (shr-shr w at 1) (shr_lt (63 - at) (at + 1) (rw total l)) in
        let small : low < 2 ^ 63 = rw (ap (λ (n : ℕ). 2 ^ n) (sym back) ∙ pow-add 2 (63 - at) at) (digits_lt high below) in
        let put : bit_or ((w / 2 ^ at / 2 * 2 ^ at) % 2 ^ 64) (w % 2 ^ at) ≡ low =
        shl_or at (64 - at) (w / 2 ^ at / 2) (w % 2 ^ at) (omega arith) below ∙ mod-eq_of_lt (omega arith) in
        rw put
        (shl_or 63 1 (digit b) low refl small
        ∙ sym (packed_bits 0 (digit b * 2 ^ 63 + low))
        ∙ ap packed (bits_join 63 1 (digit b) low small ∙ ap₂ (λ (xs ys : List Bool). xs ++ ys)
        (sym (ap (λ (n : ℕ). remove at (bits n w)) width ∙ remove_bits at (63 - at) w ∙ ap (λ (n : ℕ). bits n low) shorter)) (one_bit b)))

-- ---- counts of a word's first bits

pub ones_cut : (n w : ℕ) → n < 64 → ones (bits 64 (w % 2 ^ n)) ≡ ones (take n (bits 64 w))
ones_cut n w h =
    ones_bits 64 (w % 2 ^ n)
    ∙ ap Count.ones (mod-eq_of_lt (lt_trans (mod-lt w (pow_pos n)) (pow-lt {j = 64} h)))
    ∙ sym (ones_bits n w) ∙ ap ones (sym (take_bits n 64 w (omega arith)))

pub ones_all : (n w : ℕ) → 64 ≤ n → ones (bits 64 w) ≡ ones (take n (bits 64 w))
ones_all n w h = ap ones (sym (take_all n (bits 64 w) (omega (arith, bits_length 64 w))))
