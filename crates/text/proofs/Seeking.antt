-- Where a byte first stands, by the library's search and by ours.
use Rattle.std.proofs.Common.{ℕ, ◌+◌, ◌≤◌, ◌<◌, ◌≡◌, ◌==◌, refl, sym, List, ◌∷◌, length, arith, cond}
use Rattle.std.specs.Prelude.{Option, None, Some, position, unwrap_or}
use Rattle.std.specs.List.{position_or_len}
use Rattle.std.proofs.lemmas.List.Recursion.{is_position_or_len}
use lib.Dec.{eqb}
use Rattle.model.proofs.Cases.{by_ltb, by_test}
use Rattle.text.specs.Bytes.{index_of}
use Rattle.text.proofs.Cutting.{index_within}

module _ (byte : ℕ) where
  -- one byte more
  index_step : (b : ℕ) (bs : List ℕ) → index_of byte (b ∷ bs) ≡ cond (b == byte) 0 (1 + index_of byte bs)
  unfolding index_of
  index_step b bs = by_test (eqb b byte) (λ e. rw (index_of, e)) (λ e. rw (index_of, e) (omega arith))

  -- the place, or the length
  index_is : (bs : List ℕ) → index_of byte bs ≡ position_or_len (λ (b : ℕ). b == byte) bs
  unfolding index_of
  index_is bs = is_position_or_len (index_of byte) (λ (b : ℕ). b == byte) refl index_step bs

  module _ (bs : List ℕ) where
    -- where the search ends
    abbrev first : ℕ
    first = position_or_len (λ (b : ℕ). b == byte) bs

    -- it stands somewhere
    pub place_found : {i : ℕ} → position (λ (b : ℕ). b == byte) bs ≡ Some i → (i ≡ index_of byte bs) × (i < length bs)
    place_found {i} e =
        rw (index_is bs)
        (by_ltb first (length bs)
        (λ t h. let whole : Some first ≡ Some i = rw t at e in let same : first ≡ i = cc in (sym same, omega arith))
        (λ t h. absurd (let never : None ≡ Some i = rw t at e in let z : ◌≡◌ {A = ℕ} 0 1 = cc in omega arith)))

    -- it stands nowhere
    pub place_none : position (λ (b : ℕ). b == byte) bs ≡ None → length bs ≤ index_of byte bs
    place_none e =
        rw (index_is bs)
        (by_ltb first (length bs)
        (λ t h. absurd (let never : Some first ≡ None = rw t at e in let z : ◌≡◌ {A = ℕ} 0 1 = cc in omega arith))
        (λ t h. h))

    -- its place, or the end
    pub place_or_end : {o : Option ℕ} → o ≡ position (λ (b : ℕ). b == byte) bs → unwrap_or o (length bs) ≡ index_of byte bs
    place_or_end {o = None} e = sym (omega (arith, place_none (sym e), index_within byte bs))
    place_or_end {o = Some i} e = (place_found (sym e)).0
