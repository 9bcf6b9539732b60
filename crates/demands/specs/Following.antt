-- What is said of a whole log, the orders with their answers, one after the other.
use Rattle.std.specs.Prelude.{ℕ, ◌+◌, ◌≡◌, Bool, true, false, ◌&&◌, List, [], ◌∷◌, ◌⊎◌, eqb}
use Rattle.order.specs.Answer.{code, value}
use Rattle.order.specs.Plain.{list_answer, list_after}
use Rattle.demands.specs.History.{Entry, asked}

-- the code of an insert that found no room
abbrev pub full : ℕ
full = 4

-- the answer is the one that the plain list xs gives
pub record ListAnswers (e : Entry) (xs : List Bool) : Type 0 where
  pub code : e.code ≡ code (list_answer (asked e) xs)
  pub value : e.value ≡ value (list_answer (asked e) xs)

-- it is 4, 0
pub record TellsFull (e : Entry) : Type 0 where
  pub code : e.code ≡ full
  pub value : e.value ≡ 0

-- The answers follow the plain list xs, which is ys in the end. Each is the list's own, and the list goes on from
-- there; or it is 4, 0, and the list stays as it was.
abbrev pub Follows : List Entry → List Bool → List Bool → Type 0
Follows [] xs ys = ys ≡ xs
Follows (e ∷ es) xs ys =
    (ListAnswers e xs × Follows es (list_after (asked e) xs) ys) ⊎ (TellsFull e × Follows es xs ys)

-- no answer has the code 4
abbrev pub NoneFull : List Entry → Type 0
NoneFull [] = Unit {0}
NoneFull (e ∷ es) = (e.code ≡ full → ⊥) × NoneFull es

-- no answer has the code 0
abbrev pub AllRefused : List Entry → Type 0
AllRefused [] = Unit {0}
AllRefused (e ∷ es) = (e.code ≡ 0 → ⊥) × AllRefused es

-- The answers of a smaller pool and of a larger one agree, or the first that differs is 4, 0 from the smaller, and is
-- not 4 from the larger.
abbrev pub AgreeOrFull : List Entry → List Entry → Type 0
AgreeOrFull [] [] = Unit {0}
AgreeOrFull [] (f ∷ fs) = ⊥
AgreeOrFull (e ∷ es) [] = ⊥
AgreeOrFull (e ∷ es) (f ∷ fs) =
    ((e.code ≡ f.code) × (e.value ≡ f.value) × AgreeOrFull es fs) ⊎ (TellsFull e × (f.code ≡ full → ⊥))

-- the plain list xs with exactly those orders carried out, one after the other, that were answered 0
unfoldable pub carried_out : List Entry → List Bool → List Bool
carried_out [] xs = xs
carried_out (e ∷ es) xs = carried_out es (elim (eqb e.code 0) [ true ↦ list_after (asked e) xs | false ↦ xs ])

-- 1 where an order has this number and is answered 0, and else 0
unfoldable pub counts : ℕ → Entry → ℕ
counts number e = elim (eqb e.code 0 && eqb e.number number) [ true ↦ 1 | false ↦ 0 ]

-- how many of the orders with this number were answered 0
unfoldable pub done : ℕ → List Entry → ℕ
done number [] = 0
done number (e ∷ es) = counts number e + done number es
