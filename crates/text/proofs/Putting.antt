-- Texts put over the bytes of a row, and how long the texts of numbers are.
use Prim.Native.Nat.{ℕ, zero, suc, ◌+◌, ◌/◌, ◌%◌, ◌^◌, ◌≤◌, ◌<◌}
use native.Mathlib.Nat.{zero-add, add-zero}
use native.Mathlib.Numerals.{add-one}
use native.Mathlib.Omega.{arith}
use mathlib.Core.Path.{◌≡◌, refl, sym, ap, ap₂, ◌∙◌}
use mathlib.Core.List.{List, [], ◌∷◌, ◌++◌, append_assoc, append-nil}
use lib.ListN.{length, take, drop, set, length-append, length-take, length-drop, take-append-drop}
use lib.Seq.{length-take-le, take_at, drop_at, take-append-le, take-take, drop-append-add, drop-drop, set_split, append_snoc}
use Rattle.model.proofs.Cases.{by_ltb}
use Rattle.text.specs.Text.{decimal_text, digits, fitting, glyph, hex_text, over}

-- ---- a text over some bytes

-- a row keeps its length
pub over_length : (at : ℕ) (ts bs : List ℕ) → at + length ts ≤ length bs → length (over at ts bs) ≡ length bs
unfolding over
over_length at ts bs h = simp (length-append, length-take, length-drop) (omega arith)

-- what stands before the text, and the text
before_length : (at : ℕ) (ts bs : List ℕ) → at ≤ length bs → length (take at bs ++ ts) ≡ at + length ts
before_length at ts bs h = length-append (take at bs) ts ∙ ap (λ (n : ℕ). n + length ts) (length-take-le at bs h)

-- no text changes nothing
pub over_none : (at : ℕ) (bs : List ℕ) → over at [] bs ≡ bs
unfolding over
over_none at bs = rw (append-nil, add-zero) (take-append-drop at bs)

-- a text at the beginning
pub over_first : (ts bs : List ℕ) → over 0 ts bs ≡ ts ++ drop (length ts) bs
unfolding over
over_first ts bs = rw zero-add

-- a text of one byte is a store
pub over_one : (at b : ℕ) (bs : List ℕ) → at < length bs → over at (b ∷ []) bs ≡ set bs at b
unfolding over
over_one at b bs h = append_snoc (take at bs) b (drop (at + 1) bs) ∙ rw add-one (sym (set_split bs at b h))

module _ (at : ℕ) (a b bs : List ℕ) (fits : at + length a + length b ≤ length bs) where
  -- what stands behind both texts
  behind : drop (at + length a + length b) bs ≡ drop (at + length (a ++ b)) bs
  behind = let ends : at + length a + length b ≡ at + length (a ++ b) = omega (arith, length-append a b) in ap (λ (n : ℕ). drop n bs) ends

  -- a text, and then another right behind it, are both in one
  pub over_behind : over (at + length a) b (over at a bs) ≡ over at (a ++ b) bs
  unfolding over
  over_behind =
      let head : List ℕ = take at bs ++ a in
      let tail : List ℕ = drop (at + length a) bs in
      let long : length head ≡ at + length a = before_length at a bs (omega arith) in
      let left : drop (at + length a + length b) (head ++ tail) ≡ drop (at + length a + length b) bs =
      ap (λ (n : ℕ). drop (n + length b) (head ++ tail)) (sym long) ∙ drop-append-add head tail (length b)
      ∙ drop-drop (length b) (at + length a) bs in
      ap₂ (λ (x y : List ℕ). x ++ b ++ y) (take_at head tail (at + length a) long) left
      ∙ ap₂ (λ (x y : List ℕ). x ++ y) (append_assoc (take at bs) a b) behind

  -- a text, and then another right before it, are both in one
  pub over_before : over at a (over (at + length a) b bs) ≡ over at (a ++ b) bs
  unfolding over
  over_before =
      let head : List ℕ = take (at + length a) bs in
      let tail : List ℕ = b ++ drop (at + length a + length b) bs in
      let long : length head ≡ at + length a = length-take-le (at + length a) bs (omega arith) in
      let whole : head ++ b ++ drop (at + length a + length b) bs ≡ head ++ tail = append_assoc head b (drop (at + length a + length b) bs) in
      ap₂ (λ (x y : List ℕ). x ++ a ++ y)
      (ap (take at) whole ∙ take-append-le at head tail (omega arith) ∙ take-take at (at + length a) bs (omega arith))
      (ap (drop (at + length a)) whole ∙ drop_at head tail (at + length a) long)
      ∙ sym (append_assoc (take at bs ++ a) b (drop (at + length a + length b) bs))
      ∙ ap₂ (λ (x y : List ℕ). x ++ y) (append_assoc (take at bs) a b) behind

-- the last byte of a text may be stored first
pub over_last : (at : ℕ) (a : List ℕ) (b : ℕ) (bs : List ℕ) → at + length a < length bs
    → over at a (set bs (at + length a) b) ≡ over at (a ++ (b ∷ [])) bs
over_last at a b bs h = ap (over at a) (sym (over_one (at + length a) b bs h)) ∙ over_before at a (b ∷ []) bs (omega arith)

-- ---- lengths

-- so many digits
pub digits_length : (base k n : ℕ) → length (digits base k n) ≡ k
unfolding digits
digits_length base zero n = refl
digits_length base (suc k) n = length-append (digits base k (n / base)) (glyph (n % base) ∷ []) ∙ omega (arith, digits_length base k (n / base))

-- a word has 16 digits
pub hex_length : (w : ℕ) → length (hex_text w) ≡ 16
unfolding hex_text
hex_length w = digits_length 16 16 w

-- a count that is fitting is among those tried
fitting_bounds : (tries k n : ℕ) → (k ≤ fitting tries k n) × (fitting tries k n ≤ k + tries)
unfolding fitting
fitting_bounds zero k n = omega arith
fitting_bounds (suc tries) k n =
    by_ltb n (10 ^ k) (λ e _. rw (fitting, e) (omega arith)) (λ e _. rw (fitting, e) (let b = fitting_bounds tries (suc k) n in omega arith))

-- a number has as many digits as are fitting
pub decimal_places : (n : ℕ) → length (decimal_text n) ≡ fitting 19 1 n
unfolding decimal_text
decimal_places n = digits_length 10 (fitting 19 1 n) n

-- and a count of so many is a count of its digits
pub all_places : {k : ℕ} (n : ℕ) → k ≡ fitting 19 1 n → k ≡ length (decimal_text n)
all_places n e = e ∙ sym (decimal_places n)

-- a number has 1 to 20 digits
pub decimal_length : (n : ℕ) → (1 ≤ length (decimal_text n)) × (length (decimal_text n) ≤ 20)
decimal_length n = rw (decimal_places n) (fitting_bounds 19 1 n)
