-- A number and the list of its bits: halving the number takes off the lowest bit, so shifts are drops, masks are takes, and a number below
-- 2 ^ n is told by its n lowest bits.
use Prim.Native.Nat.{ℕ, zero, suc, ◌+◌, ◌-◌, ◌*◌, ◌/◌, ◌%◌, ◌^◌, ◌≤◌, ◌<◌}
use native.Mathlib.Nat.{zero-add, suc-add, mod-lt, div-one, pow-suc, zero-lt-suc}
use native.Mathlib.Numerals.{add-one, one-add}
use native.Mathlib.Omega.{arith}
use mathlib.Core.Path.{◌≡◌, refl, sym, ap, ap₂, ◌∙◌}
use mathlib.Core.Bool.{Bool, true, false, not}
use mathlib.Core.List.{List, [], ◌∷◌, ◌++◌, map}
use lib.Arith.{digits_div, digits_mod, lt-one}
use lib.Count as Count
use lib.Dec.{eqb}
use lib.ListN.{length, take, drop, get_or, replicate}
use lib.Seq.{drop_at}
use lib.Pow.{pow_pos, shr-shr, mod-mod-pow, field, mod-pow-add}
use Rattle.model.specs.Marks.{ones}
use Rattle.model.specs.Word.{odd, bits, digit, number, words_of}

-- ---- one bit

pub digit_odd : (w : ℕ) → digit (odd w) ≡ w % 2
unfolding digit odd
digit_odd w = go (w % 2) (mod-lt w (zero-lt-suc 1))
  where
    go : (r : ℕ) → r < 2 → digit (eqb r 1) ≡ r
    go zero h = refl
    go (suc zero) h = refl
    go (suc (suc r)) h = absurd (omega arith)

pub odd_digit : (w : ℕ) (b : Bool) → odd (w * 2 + digit b) ≡ b
unfolding odd digit
odd_digit w true = ap (λ (r : ℕ). eqb r 1) (digits_mod w (omega arith))
odd_digit w false = ap (λ (r : ℕ). eqb r 1) (digits_mod w (omega arith))

pub digit_lt : (b : Bool) → digit b < 2
unfolding digit
digit_lt true = omega arith
digit_lt false = omega arith

-- ---- the bits of a number

pub bits_length : (n w : ℕ) → length (bits n w) ≡ n
unfolding bits
bits_length zero w = refl
bits_length (suc n) w = ap suc (bits_length n (w / 2))

-- the n + m lowest bits: the n lowest, and then the m lowest of the number shifted down by n
pub bits_add : (n m w : ℕ) → bits (n + m) w ≡ bits n w ++ bits m (w / 2 ^ n)
unfolding bits
bits_add zero m w = rw (zero-add, div-one)
bits_add (suc n) m w =
    let above : w / 2 / 2 ^ n ≡ w / 2 ^ suc n = shr-shr w 1 n ∙ ap (λ (x : ℕ). w / 2 ^ x) (one-add n) in
    rw suc-add (ap {B = List Bool} (λ r. odd w ∷ r) (bits_add n m (w / 2) ∙ ap (λ (x : ℕ). bits n (w / 2) ++ bits m x) above))

-- only the n lowest digits matter
pub bits_mod : (n w : ℕ) → bits n (w % 2 ^ n) ≡ bits n w
unfolding bits odd
bits_mod zero w = refl
bits_mod (suc n) w =
    let low : w % 2 ^ suc n % 2 ≡ w % 2 = rw (← add-one n) (mod-mod-pow w n 1) in
    let high : w % 2 ^ suc n / 2 ≡ w / 2 % 2 ^ n = rw (← add-one n) (field w n 1) in
    rw (low, high) (ap {B = List Bool} (λ r. eqb (w % 2) 1 ∷ r) (bits_mod n (w / 2)))

-- a high part, and n digits below it
pub bits_join : (n m high low : ℕ) → low < 2 ^ n → bits (n + m) (high * 2 ^ n + low) ≡ bits n low ++ bits m high
bits_join n m high low h =
    bits_add n m (high * 2 ^ n + low)
    ∙ ap₂ (λ (x y : List Bool). x ++ y)
    (sym (bits_mod n (high * 2 ^ n + low)) ∙ ap (bits n) (digits_mod high h)) (ap (bits m) (digits_div high h))

pub take_bits : (n m w : ℕ) → n ≤ m → take n (bits m w) ≡ bits n w
unfolding bits
take_bits zero m w h = refl
take_bits (suc n) zero w h = absurd (omega arith)
take_bits (suc n) (suc m) w h = ap {B = List Bool} (λ r. odd w ∷ r) (take_bits n m (w / 2) (omega arith))

pub drop_bits : (n m w : ℕ) → drop n (bits (n + m) w) ≡ bits m (w / 2 ^ n)
drop_bits n m w = rw bits_add (drop_at (bits n w) (bits m (w / 2 ^ n)) n (bits_length n w))

-- the bit at a place is the lowest one after a shift
pub bits_at : (n w i : ℕ) → i < n → get_or (bits n w) i false ≡ odd (w / 2 ^ i)
unfolding bits
bits_at zero w i h = absurd (omega arith)
bits_at (suc n) w zero h = rw div-one
bits_at (suc n) w (suc i) h = bits_at n (w / 2) i (omega arith) ∙ ap odd (shr-shr w 1 i ∙ ap (λ (x : ℕ). w / 2 ^ x) (one-add i))

pub bits_zero : (n : ℕ) → bits n 0 ≡ replicate n false
unfolding bits odd
bits_zero zero = refl
bits_zero (suc n) = ap {B = List Bool} (λ r. false ∷ r) (bits_zero n)

-- the opposite of each bit is the number's complement
pub bits_not : (n w : ℕ) → w < 2 ^ n → bits n ((2 ^ n - 1) - w) ≡ map not (bits n w)
unfolding bits odd
bits_not zero w h = refl
bits_not (suc n) w h =
    let low : (2 ^ suc n - 1 - w) % 2 ≡ 1 - w % 2 = omega (arith, pow_pos n) in
    let high : (2 ^ suc n - 1 - w) / 2 ≡ 2 ^ n - 1 - w / 2 = omega (arith, pow_pos n) in
    rw (low, high)
    (ap₂ {C = List Bool} (λ x r. x ∷ r) (flip (w % 2) (mod-lt w (zero-lt-suc 1))) (bits_not n (w / 2) (omega (arith, pow_pos n))))
  where
    flip : (r : ℕ) → r < 2 → eqb (1 - r) 1 ≡ not (eqb r 1)
    flip zero h = refl
    flip (suc zero) h = refl
    flip (suc (suc r)) h = absurd (omega arith)

-- ---- and back

pub number_lt : (xs : List Bool) → number xs < 2 ^ length xs
unfolding number
number_lt [] = omega arith
number_lt (b ∷ xs) = rw (pow-suc 2 (length xs)) (let h = number_lt xs in let l = digit_lt b in omega arith)

pub number_append : (xs ys : List Bool) → number (xs ++ ys) ≡ number ys * 2 ^ length xs + number xs
unfolding number
number_append [] ys = omega arith
number_append (b ∷ xs) ys = rw (pow-suc 2 (length xs)) (let h = number_append xs ys in omega arith)

pub number_bits : (n w : ℕ) → number (bits n w) ≡ w % 2 ^ n
unfolding bits number
number_bits zero w = omega arith
number_bits (suc n) w =
    ap₂ (λ (x y : ℕ). x * 2 + y) (number_bits n (w / 2)) (digit_odd w) ∙ sym (mod-pow-add w n 1) ∙ ap (λ (x : ℕ). w % 2 ^ x) (add-one n)

pub bits_number : (xs : List Bool) → bits (length xs) (number xs) ≡ xs
unfolding bits number
bits_number [] = refl
bits_number (b ∷ xs) =
    ap₂ {C = List Bool} (λ x r. x ∷ r) (odd_digit (number xs) b) (ap (bits (length xs)) (digits_div (number xs) (digit_lt b)) ∙ bits_number xs)

-- ---- counts

-- the lowest bit counts where it is set
pub ones_cons : (b : Bool) (xs : List Bool) → ones (b ∷ xs) ≡ digit b + ones xs
unfolding ones digit
ones_cons true xs = omega arith
ones_cons false xs = omega arith

ones_below : (n w : ℕ) → w < 2 ^ n → ones (bits n w) ≡ Count.ones w
unfolding bits ones Count.ones
ones_below zero w h = rw (lt-one h)
ones_below (suc n) w h =
    ones_cons (odd w) (bits n (w / 2)) ∙ ap₂ (λ (x y : ℕ). x + y) (digit_odd w) (ones_below n (w / 2) (omega arith)) ∙ sym (Count.ones_step w)

-- the set bits are those that the machine's count of ones counts
pub ones_bits : (n w : ℕ) → ones (bits n w) ≡ Count.ones (w % 2 ^ n)
ones_bits n w = rw (← bits_mod n w) (ones_below n (w % 2 ^ n) (mod-lt w (pow_pos n)))

-- ---- words of marks

pub words_length : (k : ℕ) (xs : List Bool) → length (words_of k xs) ≡ k
unfolding words_of
words_length zero xs = refl
words_length (suc k) xs = ap suc (words_length k (drop 64 xs))
