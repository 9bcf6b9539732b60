-- Digits read and put one by one: how far each loop has come, and what its next pass does.
use Prim.Native.Nat.{ℕ, suc, ◌+◌, ◌-◌, ◌*◌, ◌/◌, ◌%◌, ◌^◌, ◌≤◌, ◌<◌}
use native.Mathlib.Nat.{mul-le-mul_right, pow-suc, pow-le-pow_right}
use native.Mathlib.Numerals.{add-one}
use native.Mathlib.Omega.{arith}
use mathlib.Core.Path.{◌≡◌, refl, sym, ap, ◌∙◌}
use mathlib.Core.Bool.{true}
use mathlib.Core.List.{List, ◌∷◌, ◌++◌}
use Rattle.std.specs.Prelude.{Option, None, Some}
use lib.ListN.{length, take, drop, get_or, set, length-set}
use lib.Seq.{length-take-le, take_all, take-suc, split_at}
use Rattle.text.specs.Text.{all_digits, digits, glyph, numeral, over, value_of, worth}
use Rattle.text.proofs.Digits.{digits_more, digits_not, numeral_digits, numeral_not, value_below, value_more}
use Rattle.text.proofs.Putting.{digits_length, over_last, over_none}

-- ---- digits read

-- the first k bytes are digits, and this is what they make
pub record Read (base : ℕ) (bs : List ℕ) (k value : ℕ) : Type 0 where
  pub within_reach : k ≤ length bs
  pub are_digits : all_digits base (take k bs) ≡ true
  pub make : value ≡ value_of base (take k bs)

module _ {base k value : ℕ} (bs : List ℕ) (so : Read base bs k value) where
  -- it is below base ^ k
  pub read_below : value < base ^ k
  read_below = rw so.make (rw (length-take-le k bs so.within_reach) at (value_below base (take k bs) so.are_digits))

  -- the next byte, which is worth so much
  module _ (more : k < length bs) {w : ℕ} (next : w ≡ worth (get_or bs k 0)) where
    -- a digit
    pub read_more : w < base → Read base bs (k + 1) (value * base + w)
    read_more h = record {
      within_reach = omega arith;
      are_digits = rw (add-one k, take-suc bs k 0 more) (digits_more base (take k bs) (get_or bs k 0) so.are_digits (rw next at h));
      make = rw (add-one k, take-suc bs k 0 more, so.make, next) (sym (value_more base (take k bs) (get_or bs k 0)));
    }

    -- no digit
    pub read_not : base ≤ w → None ≡ numeral base bs
    read_not h =
        sym (ap (numeral base) (split_at bs k 0 more)
        ∙ numeral_not base (take k bs ++ get_or bs k 0 ∷ drop (suc k) bs)
        (digits_not base (take k bs) (get_or bs k 0) (drop (suc k) bs) (rw next at h)))

    -- one digit more stays a word
    pub read_fits : w < base → base ^ length bs ≤ 2 ^ 64 → value * base + w < 2 ^ 64
    read_fits h fits =
        let here : value < base ^ k = read_below in
        let product : suc value * base ≤ base ^ k * base = mul-le-mul_right base here in
        let grows : base ^ suc k ≤ base ^ length bs = pow-le-pow_right {n = base} (omega arith) {i = suc k} {j = length bs} more in
        omega (arith, pow-suc base k)

  -- every byte was read
  pub read_all : length bs ≤ k → Some value ≡ numeral base bs
  read_all h =
      let whole : take k bs ≡ bs = take_all k bs h in
      sym (numeral_digits base bs (rw whole at so.are_digits) ∙ ap {B = Option ℕ} Some (sym (rw whole at so.make)))

-- none was read yet
pub read_none : (base : ℕ) (bs : List ℕ) → Read base bs 0 0
unfolding all_digits value_of
read_none base bs = record { within_reach = omega arith; are_digits = refl; make = refl }

-- ---- digits put

-- with the i digits that are left put over what stands there now, it is all as it is to be
pub record ToPut (base at count number : ℕ) (was out : List ℕ) (i left : ℕ) : Type 0 where
  pub few : i ≤ count
  pub as_long : length out ≡ length was
  pub whole : over at (digits base i left) out ≡ over at (digits base count number) was

module _ {base at count number : ℕ} {was out : List ℕ} {i left : ℕ} (p : ToPut base at count number was out i left) where
  -- none is left
  pub put_all : i ≤ 0 → out ≡ over at (digits base count number) was
  unfolding digits
  put_all h =
      let none_left : i ≡ 0 = omega arith in
      sym (over_none at out) ∙ rw none_left at p.whole

  -- the last of them is stored
  pub put_one : {g : ℕ} → 0 < i → at + count ≤ length was → g ≡ glyph (left % base)
      → ToPut base at count number was (set out (at + (i - 1)) g) (i - 1) (left / base)
  unfolding digits
  put_one {g} h room e =
      let one_less : i ≡ suc (i - 1) = omega arith in
      let long : length (digits base (i - 1) (left / base)) ≡ i - 1 = digits_length base (i - 1) (left / base) in
      record {
        few = omega (arith, p.few);
        as_long = length-set out (at + (i - 1)) g ∙ p.as_long;
        whole =
            rw e
            (rw long at (over_last at (digits base (i - 1) (left / base)) (glyph (left % base)) out (omega (arith, long, p.as_long, p.few)))
            ∙ rw one_less at p.whole);
      }
