-- Digits of a base: what they are worth together, how many a number needs, and that what is told is read back.
use Prim.Native.Nat.{ℕ, zero, suc, ◌+◌, ◌-◌, ◌*◌, ◌/◌, ◌%◌, ◌^◌, ◌≤◌, ◌<◌}
use native.Mathlib.Nat.{add-zero, add-suc, suc-add, mod-lt, div-add-mod', div-lt_iff_lt-mul, le_trans, mul-le-mul_right, pow-zero, pow-suc, pow-le-pow_right}
use native.Mathlib.Numerals.{add-one}
use native.Mathlib.Omega.{arith}
use mathlib.Core.Path.{◌≡◌, refl, ap, ap₂, ◌∙◌}
use mathlib.Core.Bool.{Bool, true, false, ◌&&◌}
use mathlib.Core.List.{List, [], ◌∷◌, ◌++◌}
use Rattle.std.specs.Prelude.{Option, None, Some}
use lib.Dec.{eqb, leb, ltb}
use lib.ListN.{length, length-append}
use borrow.Author.Tests.{lt-ltb, le-ltb, le-leb, eqb-true, eq-eqb, ne_eqb}
use Rattle.model.proofs.Cases.{by_leb, by_ltb, by_test}
use Rattle.text.specs.Text.{all_digits, decimal, decimal_text, digits, fitting, glyph, hex_text, hex_word, numeral, value_of, worth}
use Rattle.text.proofs.Putting.{decimal_length, digits_length, hex_length}

-- ---- one digit

-- both tests pass
within : (low high b : ℕ) → low ≤ b → b ≤ high → leb low b && leb b high ≡ true
within low high b l h = rw (le-leb low b l, le-leb b high h)

-- one of them fails
outside : (low high b : ℕ) → (low ≤ b → b ≤ high → ⊥) → leb low b && leb b high ≡ false
outside low high b n = by_leb low b (λ e l. by_leb b high (λ _ h. absurd (n l h)) (λ f _. rw (e, f))) (λ e _. rw e)

-- what the bytes 0 to 9 are worth
pub worth_figure : (b : ℕ) → 48 ≤ b → b ≤ 57 → worth b ≡ b - 48
unfolding worth
worth_figure b l h = rw (worth, within 48 57 b l h)

-- the bytes a to f
pub worth_letter : (b : ℕ) → 97 ≤ b → b ≤ 102 → worth b ≡ b - 87
unfolding worth
worth_letter b l h = rw (worth, outside 48 57 b (λ _ k. omega arith), within 97 102 b l h)

-- and every other byte
pub worth_neither : (b : ℕ) → (48 ≤ b → b ≤ 57 → ⊥) → (97 ≤ b → b ≤ 102 → ⊥) → worth b ≡ 16
unfolding worth
worth_neither b n m = rw (worth, outside 48 57 b n, outside 97 102 b m)

-- the bytes of 0 to 9
pub glyph_figure : (d : ℕ) → d < 10 → glyph d ≡ 48 + d
unfolding glyph
glyph_figure d h = rw (glyph, lt-ltb d 10 h)

-- and of 10 to 15
pub glyph_letter : (d : ℕ) → 10 ≤ d → glyph d ≡ 87 + d
unfolding glyph
glyph_letter d h = rw (glyph, le-ltb d 10 h)

-- a digit's byte is worth the digit
worth_glyph : (d : ℕ) → d < 16 → worth (glyph d) ≡ d
worth_glyph d h =
    by_ltb d 10
    (λ _ l. ap worth (glyph_figure d l) ∙ worth_figure (48 + d) (omega arith) (omega arith) ∙ omega arith)
    (λ _ l. ap worth (glyph_letter d l) ∙ worth_letter (87 + d) (omega arith) (omega arith) ∙ omega arith)

-- ---- some digits, and one more

module _ (base : ℕ) where
  -- two texts of digits are one
  pub all_digits_append : (xs ys : List ℕ) → all_digits base (xs ++ ys) ≡ all_digits base xs && all_digits base ys
  unfolding all_digits
  all_digits_append [] ys = refl
  all_digits_append (b ∷ xs) ys =
      by_test (ltb (worth b) base) (λ e. rw e (all_digits_append xs ys)) (λ e. rw e)

  -- one digit more counts the others the base's number of times
  pub value_more : (xs : List ℕ) (d : ℕ) → value_of base (xs ++ (d ∷ [])) ≡ value_of base xs * base + worth d
  unfolding value_of
  value_more [] d = rw (pow-zero base) (omega arith)
  value_more (b ∷ xs) d =
      rw (length-append xs (d ∷ []), add-one (length xs), pow-suc base (length xs)) (let more = value_more xs d in omega arith)

  -- digits, and one digit more
  pub digits_more : (xs : List ℕ) (d : ℕ) → all_digits base xs ≡ true → worth d < base → all_digits base (xs ++ (d ∷ [])) ≡ true
  unfolding all_digits
  digits_more xs d e h = all_digits_append xs (d ∷ []) ∙ rw (e, lt-ltb (worth d) base h)

  -- a byte among them that is no digit
  pub digits_not : (xs : List ℕ) (d : ℕ) (ys : List ℕ) → base ≤ worth d → all_digits base (xs ++ (d ∷ ys)) ≡ false
  unfolding all_digits
  digits_not [] d ys h = rw (le-ltb (worth d) base h)
  digits_not (b ∷ xs) d ys h = by_test (ltb (worth b) base) (λ e. rw e (digits_not xs d ys h)) (λ e. rw e)

  -- k digits make a number below base ^ k
  pub value_below : (xs : List ℕ) → all_digits base xs ≡ true → value_of base xs < base ^ length xs
  unfolding all_digits value_of
  value_below [] e = rw (pow-zero base) (omega arith)
  value_below (b ∷ xs) e =
      by_ltb (worth b) base
      (λ t h. rw (pow-suc base (length xs)) (let v = value_below xs (rw (all_digits, t) at e) in
      omega (arith, mul-le-mul_right (base ^ length xs) h)))
      (λ t h. let never : ◌≡◌ {A = Bool} false true = rw (all_digits, t) at e in absurd (let z : ◌≡◌ {A = ℕ} 0 1 = cc in omega arith))

  -- digits make their value
  pub numeral_digits : (xs : List ℕ) → all_digits base xs ≡ true → numeral base xs ≡ Some (value_of base xs)
  unfolding numeral
  numeral_digits xs e = rw (numeral, e)

  -- and a text that is not all digits makes none
  pub numeral_not : (xs : List ℕ) → all_digits base xs ≡ false → numeral base xs ≡ None
  unfolding numeral
  numeral_not xs e = rw (numeral, e)

-- ---- the digits of a number

module _ (base : ℕ) (some_base : 1 < base) (most : base ≤ 16) where
  -- the last digit
  last_worth : (n : ℕ) → worth (glyph (n % base)) ≡ n % base
  last_worth n = worth_glyph (n % base) (let below : n % base < base = mod-lt n (omega arith) in omega arith)

  -- what is told are digits
  told_digits : (k n : ℕ) → all_digits base (digits base k n) ≡ true
  unfolding digits all_digits
  told_digits zero n = refl
  told_digits (suc k) n =
      digits_more base (digits base k (n / base)) (glyph (n % base)) (told_digits k (n / base)) (rw (last_worth n) (mod-lt n (omega arith)))

  -- and they are worth the number
  told_value : (k n : ℕ) → n < base ^ k → value_of base (digits base k n) ≡ n
  unfolding digits value_of
  told_value zero n h = omega (arith, pow-zero base)
  told_value (suc k) n h =
      let fewer : n / base < base ^ k = (div-lt_iff_lt-mul {k = base} {x = n} {y = base ^ k} (omega arith)).1 (rw (pow-suc base k) at h) in
      value_more base (digits base k (n / base)) (glyph (n % base))
      ∙ ap₂ (λ (x y : ℕ). x * base + y) (told_value k (n / base) fewer) (last_worth n)
      ∙ div-add-mod' n base

  -- the k digits of a number below base ^ k make the number
  pub told_numeral : (k n : ℕ) → n < base ^ k → numeral base (digits base k n) ≡ Some n
  told_numeral k n h = numeral_digits base (digits base k n) (told_digits k n) ∙ ap {B = Option ℕ} Some (told_value k n h)

-- ---- how many decimal digits a number needs

-- a count that is enough is kept
pub fitting_here : (tries k n : ℕ) → n < 10 ^ k → fitting tries k n ≡ k
unfolding fitting
fitting_here zero k n h = refl
fitting_here (suc tries) k n h = rw (fitting, lt-ltb n (10 ^ k) h)

-- where some count in reach is enough, the one found is
fitting_enough : (tries k n : ℕ) → n < 10 ^ (k + tries) → n < 10 ^ fitting tries k n
unfolding fitting
fitting_enough zero k n h = rw add-zero at h
fitting_enough (suc tries) k n h =
    by_ltb n (10 ^ k) (λ e l. rw (fitting, e) l)
    (λ e l. rw (fitting, e) (fitting_enough tries (suc k) n (rw (add-suc k tries, ← suc-add k tries) at h)))

-- and none that is enough is below it
fitting_least : (tries k n m : ℕ) → k ≤ m → n < 10 ^ m → fitting tries k n ≤ m
unfolding fitting
fitting_least zero k n m l h = l
fitting_least (suc tries) k n m l h =
    by_ltb n (10 ^ k) (λ e _. rw (fitting, e) l)
    (λ e low. rw (fitting, e)
    (fitting_least tries (suc k) n m (by_ltb k m (λ _ more. more)
    (λ _ same. absurd (let grows : 10 ^ m ≤ 10 ^ k = pow-le-pow_right {n = 10} (omega arith) {i = m} {j = k} same in omega arith))) h))

-- a number from 10 ^ k on and below 10 ^ (k + 1) needs one digit more than k
pub fitting_is : (k n : ℕ) → k < 20 → 10 ^ k ≤ n → n < 10 * 10 ^ k → fitting 19 1 n ≡ k + 1
fitting_is k n few low high =
    let most : n < 10 ^ (k + 1) = rw (add-one k, pow-suc 10 k) (omega arith) in
    let all : 10 ^ (k + 1) ≤ 10 ^ 20 = pow-le-pow_right {n = 10} (omega arith) {i = k + 1} {j = 20} (omega arith) in
    let enough : n < 10 ^ fitting 19 1 n = fitting_enough 19 1 n (omega arith) in
    let no_more : fitting 19 1 n ≤ k + 1 = fitting_least 19 1 n (k + 1) (omega arith) most in
    by_ltb k (fitting 19 1 n)
    (λ _ l. omega arith)
    (λ _ l. absurd (let below : 10 ^ fitting 19 1 n ≤ 10 ^ k = pow-le-pow_right {n = 10} (omega arith) {i = fitting 19 1 n} {j = k} l in omega arith))

-- ---- what is told is read back

-- a word in its 16 digits is read as the word
pub hex_back : (w : ℕ) → w < 2 ^ 64 → hex_word (hex_text w) ≡ Some w
unfolding hex_word hex_text
hex_back w h = rw (hex_word, eq-eqb (length (hex_text w)) 16 (hex_length w)) (told_numeral 16 (omega arith) (omega arith) 16 w h)

-- a number that has at most 18 digits is read as the number
pub decimal_back : (n : ℕ) → n < 10 ^ 18 → decimal (decimal_text n) ≡ Some n
unfolding decimal decimal_text
decimal_back n h =
    let few : length (decimal_text n) ≤ 18 = rw (digits_length 10 (fitting 19 1 n) n) (fitting_least 19 1 n 18 (omega arith) h) in
    rw (decimal, within 1 18 (length (decimal_text n)) (decimal_length n).0 few)
    (told_numeral 10 (omega arith) (omega arith) (fitting 19 1 n) n (fitting_enough 19 1 n (omega arith)))

-- ---- which fields are numbers

-- 1 to 18 bytes are read as decimal digits
pub decimal_reads : (bs : List ℕ) → 1 ≤ length bs → length bs ≤ 18 → decimal bs ≡ numeral 10 bs
unfolding decimal
decimal_reads bs l h = rw (decimal, within 1 18 (length bs) l h)

-- and no other count
pub decimal_not : (bs : List ℕ) → (1 ≤ length bs → length bs ≤ 18 → ⊥) → decimal bs ≡ None
unfolding decimal
decimal_not bs n = rw (decimal, outside 1 18 (length bs) n)

-- 16 bytes are read as hexadecimal digits
pub hex_reads : (bs : List ℕ) → length bs ≡ 16 → hex_word bs ≡ numeral 16 bs
unfolding hex_word
hex_reads bs e = rw (hex_word, eq-eqb (length bs) 16 e)

-- and no other count
pub hex_not : (bs : List ℕ) → (length bs ≡ 16 → ⊥) → hex_word bs ≡ None
unfolding hex_word
hex_not bs n = rw (hex_word, ne_eqb (length bs) 16 n)

-- what is read as a word has 16 bytes
pub hex_long : (bs : List ℕ) (w : ℕ) → hex_word bs ≡ Some w → length bs ≡ 16
unfolding hex_word
hex_long bs w e =
    by_test (eqb (length bs) 16) (λ t. eqb-true (length bs) 16 t)
    (λ t. absurd (let never : None ≡ Some w = rw (hex_word, t) at e in let z : ◌≡◌ {A = ℕ} 0 1 = cc in omega arith))

-- fewer digits than a word has stay within a word
pub digits_fit : (base k n : ℕ) → 0 < base → k ≤ n → base ^ n ≤ 2 ^ 64 → base ^ k ≤ 2 ^ 64
digits_fit base k n h l most = le_trans (pow-le-pow_right {n = base} h {i = k} {j = n} l) most
