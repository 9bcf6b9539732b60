-- How the search for the k-th set bit narrows: of two neighbouring runs of bits it is in the first where that has enough set ones, else in the
-- second. At a run of one bit it has found it. One law serves the bytes, the half byte, the pair and the bit.
use Prim.Native.Nat.{ℕ, zero, suc, ◌+◌, ◌-◌, ◌*◌, ◌/◌, ◌^◌, ◌≤◌, ◌<◌}
use native.Mathlib.Nat.{div-one, add-zero}
use native.Mathlib.Omega.{arith}
use mathlib.Core.Path.{◌≡◌, refl, sym, ap, ◌∙◌}
use mathlib.Core.Bool.{Bool, true, false}
use mathlib.Core.List.{[], ◌∷◌}
use Rattle.std.specs.Prelude.{Some}
use lib.Bits.{bit_and, and_mask}
use lib.ListN.{length}
use lib.Pow.{shr-shr}
use Rattle.model.specs.Marks.{ones, place, further}
use Rattle.model.specs.Word.{odd, bits, digit}
use Rattle.model.proofs.Counting.{place_in_first, place_in_second, further_zero, further_further}
use Rattle.model.proofs.Words.{bits_add, bits_length, digit_odd, ones_cons}
use Rattle.select.specs.Select.{Search, InField, sums_of}
use Rattle.select.specs.Fields.{field_counts}
use Rattle.select.specs.declared.select.Reached.{Reached}
use Rattle.select.specs.declared.select.Sums.{Sums}
use Rattle.select.proofs.Fields.{field_of_counts, ones_bits_le, ones_bits_add}

-- the search begins at the whole word
pub begin : (w k : ℕ) → 1 ≤ k → k ≤ ones (bits 64 w) → Search w k 64 (record { pos = 0; left = k })
begin w k h l = record {
  inside = omega arith;
  one = h;
  enough = rw div-one l;
  same = rw div-one (sym (further_zero (place k (bits 64 w))));
}

module _ {w k : ℕ} (m n : ℕ) {r : Reached} (s : Search w k (m + n) r) where
  -- the first m of the m + n bits have enough set ones
  pub stay : r.left ≤ ones (bits m (w / 2 ^ r.pos)) → Search w k m r
  stay h = record {
    inside = omega arith;
    one = s.one;
    enough = h;
    same = s.same ∙ rw bits_add (ap (further r.pos) (place_in_first r.left (bits m (w / 2 ^ r.pos)) (bits n (w / 2 ^ r.pos / 2 ^ m)) h));
  }

  -- they have too few
  pub pass : ones (bits m (w / 2 ^ r.pos)) < r.left
      → Search w k n (record { pos = r.pos + m; left = r.left - ones (bits m (w / 2 ^ r.pos)) })
  pass h = record {
    inside = omega arith;
    one = omega arith;
    enough = rw (← shr-shr w r.pos m) (omega (arith, ones_bits_add m n (w / 2 ^ r.pos)));
    same = s.same ∙ rw (bits_add, ← shr-shr w r.pos m)
        (ap (further r.pos) (place_in_second r.left (bits m (w / 2 ^ r.pos)) (bits n (w / 2 ^ r.pos / 2 ^ m)) h)
        ∙ further_further r.pos (length (bits m (w / 2 ^ r.pos))) _ ∙ rw bits_length);
  }

only : (b : Bool) (left : ℕ) → 1 ≤ left → left ≤ ones (b ∷ []) → place left (b ∷ []) ≡ Some 0
unfolding ones place
only true zero h l = absurd (omega arith)
only true (suc zero) h l = refl
only true (suc (suc left)) h l = absurd (omega arith)
only false left h l = absurd (omega arith)

-- at one bit it has come to the place
pub found : {w k : ℕ} {r : Reached} → Search w k 1 r → place k (bits 64 w) ≡ Some r.pos
unfolding bits further
found {w} {k} {r} s = s.same ∙ rw (only (odd (w / 2 ^ r.pos)) r.left s.one s.enough) (ap Some (add-zero r.pos))

-- ---- fields

-- of a field of m + m bits, of whose lower half `here` bits are set, the upper half where they are too few, else the lower
module _ {w k m here : ℕ} {r : Reached} (f : InField w k (m + m) r) (e : here ≡ ones (bits m (w / 2 ^ r.pos))) where
  pub upper : here < r.left → InField w k m (record { pos = r.pos + m; left = r.left - here })
  upper h = record {
    begins = (f.begins.0 + f.begins.0 + 1, omega arith);
    search = rw e (pass m m f.search (rw e at h));
  }

  pub lower : r.left ≤ here → InField w k m r
  lower h = record { begins = (f.begins.0 + f.begins.0, omega arith); search = stay m m f.search (rw e at h) }

-- what a masked sum holds in the field of n bits that begins at pos
pub held : (n m w pos j : ℕ) → pos ≡ n * j → j < m → bit_and (field_counts n m w / 2 ^ pos) (2 ^ n - 1) ≡ ones (bits n (w / 2 ^ pos))
held n m w pos j e h = and_mask (field_counts n m w / 2 ^ pos) n ∙ rw e (field_of_counts n m w j h)

-- what it holds in the lower half of the field that the search is in
pub held_below : {w k : ℕ} (n m : ℕ) {r : Reached} (f : InField w k (n + n) r) → 2 * f.begins.0 < m
    → bit_and (field_counts n m w / 2 ^ r.pos) (2 ^ n - 1) ≡ ones (bits n (w / 2 ^ r.pos))
held_below {w} n m {r} f h = held n m w r.pos (2 * f.begins.0) (omega arith) h

-- a bit counts itself
pub held_bit : (x : ℕ) → bit_and x 1 ≡ ones (bits 1 x)
unfolding bits ones
held_bit x = and_mask x 1 ∙ sym (digit_odd x) ∙ sym (ones_cons (odd x) [] ∙ add-zero (digit (odd x)))

-- what the sums of a word say in the lower half of a byte, and of a half byte
module _ {w k : ℕ} {sums : Sums} (e : sums ≡ sums_of w) {r : Reached} where
  pub half_held : (f : InField w k 8 r) → bit_and (sums.halves / 2 ^ r.pos) 0x0f ≡ ones (bits 4 (w / 2 ^ r.pos))
  unfolding sums_of
  half_held f = rw e (held_below 4 16 f (omega arith))

  pub pair_held : (f : InField w k 4 r) → bit_and (sums.pairs / 2 ^ r.pos) 0x03 ≡ ones (bits 2 (w / 2 ^ r.pos))
  unfolding sums_of
  pair_held f = rw e (held_below 2 32 f (omega arith))

-- ---- bytes

-- the search has come to a byte, and the bit is in it or in one after it
pub record InBytes (w k : ℕ) (r : Reached) : Type 0 where
  pub begins : (j : ℕ) × (r.pos ≡ 8 * j)
  pub room : r.pos + 8 ≤ 64
  pub search : Search w k (8 + (56 - r.pos)) r

pub bytes_begin : (w k : ℕ) → 1 ≤ k → k ≤ ones (bits 64 w) → InBytes w k (record { pos = 0; left = k })
bytes_begin w k h l = record { begins = (0, refl); room = omega arith; search = begin w k h l }

module _ {w k here : ℕ} {r : Reached} (b : InBytes w k r) (e : here ≡ ones (bits 8 (w / 2 ^ r.pos))) where
  pub byte_reached : r.left ≤ here → InField w k 8 r
  byte_reached h = record { begins = b.begins; search = stay 8 (56 - r.pos) b.search (rw e at h) }

  pub byte_passed : here < r.left → InBytes w k (record { pos = r.pos + 8; left = r.left - here })
  byte_passed h =
      let s : Search w k (56 - r.pos) (record { pos = r.pos + 8; left = r.left - here }) = rw e (pass 8 (56 - r.pos) b.search (rw e at h)) in
      let some_left : r.pos < 56 = omega (arith, s.one, s.enough, ones_bits_le (56 - r.pos) (w / 2 ^ (r.pos + 8))) in
      let same : 56 - r.pos ≡ 8 + (56 - (r.pos + 8)) = omega (arith, b.begins.1) in
      record { begins = (b.begins.0 + 1, omega (arith, b.begins.1)); room = omega (arith, b.begins.1); search = rw same at s }

-- what the sums of a word say of the byte that the search has come to
pub byte_held : {w k : ℕ} {sums : Sums} {r : Reached} → sums ≡ sums_of w → InBytes w k r
    → bit_and (sums.bytes / 2 ^ r.pos) 0xff ≡ ones (bits 8 (w / 2 ^ r.pos))
unfolding sums_of
byte_held {r = r} e b = rw e (held 8 8 _ r.pos b.begins.0 b.begins.1 (omega arith))
