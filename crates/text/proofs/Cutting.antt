-- Pieces between marks, and fields, by where the first mark stands; and texts that are the same.
use Prim.Native.Nat.{ℕ, suc, ◌+◌, ◌≤◌, ◌<◌}
use native.Mathlib.Numerals.{add-one}
use native.Mathlib.Omega.{arith}
use mathlib.Core.Path.{◌≡◌, refl, ap}
use mathlib.Core.Bool.{Bool, ◌&&◌}
use mathlib.Core.List.{List, [], ◌∷◌}
use lib.Dec.{eqb}
use lib.ListN.{length, take, drop}
use Rattle.text.specs.Bytes.{index_of}
use Rattle.model.proofs.Cases.{by_ltb, by_test}
use Rattle.std.specs.Bool.{Decides}
use Rattle.std.specs.Str.{bytes_eq}
use Rattle.std.proofs.lemmas.Slice.Eq.{compares_Decides}
use Rattle.text.specs.Text.{fields, onto_first, pieces, same, space}

module _ (mark : ℕ) where
  pub index_within : (bs : List ℕ) → index_of mark bs ≤ length bs
  unfolding index_of
  index_within [] = omega arith
  index_within (b ∷ bs) = by_test (eqb b mark) (λ e. rw (index_of, e) (omega arith)) (λ e. rw (index_of, e)
      (let within = index_within bs in omega arith))

  -- no mark: one piece
  pub pieces_one : (bs : List ℕ) → length bs ≤ index_of mark bs → pieces mark bs ≡ bs ∷ []
  unfolding pieces onto_first index_of
  pieces_one [] h = refl
  pieces_one (b ∷ bs) h =
      by_test (eqb b mark)
      (λ e. absurd (let none_less : suc (length bs) ≤ 0 = rw (index_of, e) at h in omega arith))
      (λ e. rw (pieces, e) (ap (onto_first b) (pieces_one bs (let less : suc (length bs) ≤ suc (index_of mark bs) = rw
      (index_of, e) at h in omega arith))))

  -- what stands before the first mark, and the pieces of what stands behind it
  pub pieces_more : (bs : List ℕ) → index_of mark bs < length bs
      → pieces mark bs ≡ take (index_of mark bs) bs ∷ pieces mark (drop (suc (index_of mark bs)) bs)
  unfolding pieces onto_first index_of
  pieces_more [] h = absurd (omega arith)
  pieces_more (b ∷ bs) h =
      by_test (eqb b mark)
      (λ e. rw (pieces, index_of, e))
      (λ e. rw (pieces, index_of, e) (ap (onto_first b) (pieces_more bs (let less : suc (index_of mark bs) < suc (length bs) = rw
      (index_of, e) at h in omega arith))))

  -- both ways
  pub by_mark : {P : Type 0} (bs : List ℕ) → (length bs ≤ index_of mark bs → P) → (index_of mark bs < length bs → P) → P
  by_mark bs p q = by_ltb (index_of mark bs) (length bs) (λ _ h. q h) (λ _ h. p h)

  -- there is always a first piece
  pub pieces_some : (P : List (List ℕ) → Type 0) (bs : List ℕ) → ((f : List ℕ) (fs : List (List ℕ)) → P (f ∷ fs)) → P (pieces mark bs)
  pieces_some P bs p = by_mark bs (λ h. rw (pieces_one bs h) (p bs [])) (λ h. rw (pieces_more bs h) (p _ _))

-- ---- the fields of a row

-- no space: one field
pub fields_alone : (bs : List ℕ) → length bs ≤ index_of space bs → fields bs ≡ bs ∷ []
unfolding fields
fields_alone bs h = pieces_one space bs h

-- what stands before the first space, and the fields behind it
pub fields_more : (bs : List ℕ) {i : ℕ} → i ≡ index_of space bs → i < length bs → fields bs ≡ take i bs ∷ fields (drop (i + 1) bs)
unfolding fields
fields_more bs {i} e h = rw (add-one i, e) (pieces_more space bs (rw e at h))

-- there is always a first field
pub fields_some : (P : List (List ℕ) → Type 0) (bs : List ℕ) → ((f : List ℕ) (fs : List (List ℕ)) → P (f ∷ fs)) → P (fields bs)
unfolding fields
fields_some P bs p = pieces_some space P bs p

-- ---- texts that are the same

-- two texts are told to be the same where they are equal
pub same_decides : (a b : List ℕ) → Decides (same a b) (a ≡ b)
unfolding same
same_decides = compares_Decides same (record { empty = refl; shorter = λ y ys. refl; longer = λ x xs. refl; heads = λ x y xs ys. refl })

-- as the library tells it
pub same_is : (a b : List ℕ) → bytes_eq a b ≡ same a b
unfolding same
same_is [] [] = refl
same_is [] (y ∷ b) = refl
same_is (x ∷ a) [] = refl
same_is (x ∷ a) (y ∷ b) = ap (λ (r : Bool). eqb x y && r) (same_is a b)
