-- Every public contract determines its result: two results that it allows for the same arguments are equal, and so are the bytes that the call
-- leaves. Each law speaks of the contract as the check reads it off the source.
use Prim.Native.Nat.{ℕ}
use native.Mathlib.Omega.{arith}
use mathlib.Core.Path.{◌≡◌, refl, sym, ap, ◌∙◌}
use mathlib.Core.List.{List, [], ◌∷◌, ◌++◌}
use denote.Ref.{Bor}
use lib.Dec.{eqb}
use borrow.Author.Tests.{eqb-true}
use Rattle.std.specs.Prelude.{Option, None, Some}
use Rattle.model.proofs.Cases.{by_test}
use Rattle.text.specs.Text.{fields, fields_left, onto_first, pieces, space}
use Rattle.text.proofs.Cutting.{fields_some, pieces_some}
use Rattle.text.proofs.fields.first_field.Reads as first_field
use Rattle.text.proofs.fields.is_word.Reads as is_word
use Rattle.model.specs.Contract.{Pinned}
use Rattle.text.proofs.fields.field_end.Reads as field_end
use Rattle.text.proofs.numbers.decimal.Reads as decimal
use Rattle.text.proofs.numbers.hex_word.Reads as hex_word
use Rattle.text.proofs.numbers.put_decimal.Reads as put_decimal
use Rattle.text.proofs.numbers.put_hex.Reads as put_hex
use Rattle.text.proofs.scan.find.Reads as find

pub field_end_pinned : Pinned field_end.Post
field_end_pinned κs a r r' w w' p q = p.0 ∙ sym q.0

pub is_word_pinned : Pinned is_word.Post
is_word_pinned κs a r r' w w' p q = p ∙ sym q

-- fields that are joined again
joined : List (List ℕ) → List ℕ
joined [] = []
joined (p ∷ []) = p
joined (p ∷ q ∷ ps) = p ++ (space ∷ joined (q ∷ ps))

no_list : (f : List ℕ) (fs : List (List ℕ)) → [] ≡ f ∷ fs → ⊥
no_list f fs e = let z : ◌≡◌ {A = ℕ} 0 1 = cc in omega arith

joined_onto : (b : ℕ) (p : List ℕ) (ps : List (List ℕ)) → joined (onto_first b (p ∷ ps)) ≡ b ∷ joined (p ∷ ps)
unfolding joined onto_first
joined_onto b p [] = refl
joined_onto b p (q ∷ ps) = refl

joined_behind : (b : ℕ) (q : List ℕ) (ps : List (List ℕ)) → b ≡ space → joined ([] ∷ q ∷ ps) ≡ b ∷ joined (q ∷ ps)
unfolding joined
joined_behind b q ps e = rw e refl

joined_back : (bs : List ℕ) → joined (fields bs) ≡ bs
unfolding fields pieces joined
joined_back [] = refl
joined_back (b ∷ bs) =
    by_test (eqb b space)
    (λ e. rw (pieces, e)
    (pieces_some space (λ (ps : List (List ℕ)). joined ([] ∷ ps) ≡ b ∷ joined ps) bs (λ q ps. joined_behind b q ps (eqb-true b space e))
    ∙ ap (λ (l : List ℕ). b ∷ l) (joined_back bs)))
    (λ e. rw (pieces, e)
    (pieces_some space (λ (ps : List (List ℕ)). joined (onto_first b ps) ≡ b ∷ joined ps) bs (joined_onto b)
    ∙ ap (λ (l : List ℕ). b ∷ l) (joined_back bs)))

-- what stands behind the first field
pub rest_now : Option (Bor (List ℕ)) → Option (List ℕ)
rest_now (Some rest) = Some rest.now
rest_now None = None

same_rest : (o o' : Option (Bor (List ℕ))) → fields_left o ≡ fields_left o' → rest_now o ≡ rest_now o'
unfolding fields_left rest_now
same_rest None None e = refl
same_rest None (Some r) e = fields_some (λ (fs : List (List ℕ)). [] ≡ fs → None ≡ Some r.now) r.now (λ f fs n. absurd (no_list f fs n)) e
same_rest (Some r) None e = fields_some (λ (fs : List (List ℕ)). fs ≡ [] → Some r.now ≡ None) r.now (λ f fs n. absurd (no_list f fs (sym n))) e
same_rest (Some r) (Some r') e = ap {B = Option (List ℕ)} Some (sym (joined_back r.now) ∙ ap joined e ∙ joined_back r'.now)

pub first_field_pinned : (κs : _) (a : _) (r r' : _) (w w' : _) → first_field.Post κs a r w → first_field.Post κs a r' w'
    → (r.0.now ≡ r'.0.now) × (rest_now r.1 ≡ rest_now r'.1)
first_field_pinned κs a r r' w w' p q =
    let same : r.0.now ∷ fields_left r.1 ≡ r'.0.now ∷ fields_left r'.1 = sym p.0 ∙ q.0 in
    let heads : r.0.now ≡ r'.0.now = cc in
    let tails : fields_left r.1 ≡ fields_left r'.1 = cc in
    (heads, same_rest r.1 r'.1 tails)

pub decimal_pinned : Pinned decimal.Post
decimal_pinned κs a r r' w w' p q = p ∙ sym q

pub hex_word_pinned : Pinned hex_word.Post
hex_word_pinned κs a r r' w w' p q = p ∙ sym q

pub put_decimal_pinned : (κs : _) (a : _) (r r' : _) (w w' : _) → put_decimal.Post κs a r w → put_decimal.Post κs a r' w'
    → (r ≡ r') × (w.0.now ≡ w'.0.now)
put_decimal_pinned κs a r r' w w' p q = (p.0 ∙ sym q.0, p.1 ∙ sym q.1)

pub put_hex_pinned : (κs : _) (a : _) (r r' : _) (w w' : _) → put_hex.Post κs a r w → put_hex.Post κs a r' w'
    → (r ≡ r') × (w.0.now ≡ w'.0.now)
put_hex_pinned κs a r r' w w' p q = (p.0 ∙ sym q.0, p.1 ∙ sym q.1)

pub find_pinned : Pinned find.Post
find_pinned κs a r r' w w' p q = p ∙ sym q
