-- What an order's three words ask.
use Rattle.std.specs.Prelude.{ℕ, zero, suc, ◌≡◌, Bool, true, false, List, [], ◌∷◌, get_or, Result, Ok, Err}
use Rattle.model.specs.Word.{digit}
use Rattle.order.specs.declared.answer.Refusal.{Refusal}
use Rattle.order.specs.declared.answer.Refusal.TheVariants.{Malformed}
use Rattle.order.specs.declared.asked.Order.{Order}
use Rattle.order.specs.declared.asked.Order.TheVariants.{Insert, Remove, Access, Rank, Select, Quiet}

pub data Asked : Type 0 where
  inserting : ℕ → Bool → Asked
  removing : ℕ → Asked
  accessing : ℕ → Asked
  ranking : ℕ → Bool → Asked
  selecting : ℕ → Bool → Asked
  quiet : Asked
  unknown : Asked

-- a word that is to be a bit
unfoldable pub with_bit : ℕ → (Bool → Asked) → Asked
with_bit zero ask = ask false
with_bit (suc zero) ask = ask true
with_bit (suc (suc b)) ask = unknown

-- a word that is to be zero
unfoldable pub with_zero : ℕ → Asked → Asked
with_zero zero ask = ask
with_zero (suc z) ask = unknown

-- the first word is the order's number, from 1 to 6
unfoldable pub asks : ℕ → ℕ → ℕ → Asked
asks zero x y = unknown
asks (suc zero) x y = with_bit y (inserting x)
asks (suc (suc zero)) x y = with_zero y (removing x)
asks (suc (suc (suc zero))) x y = with_zero y (accessing x)
asks (suc (suc (suc (suc zero)))) x y = with_bit y (ranking x)
asks (suc (suc (suc (suc (suc zero))))) x y = with_bit y (selecting x)
asks (suc (suc (suc (suc (suc (suc zero)))))) x y = with_zero x (with_zero y quiet)
asks (suc (suc (suc (suc (suc (suc (suc n))))))) x y = unknown

-- the same of the three words together
abbrev pub asked_by : List ℕ → Asked
asked_by ws = asks (get_or ws 0 0) (get_or ws 1 0) (get_or ws 2 0)

-- what an order asks
abbrev pub asked_of : Order → Asked
asked_of (Insert i b) = inserting i b
asked_of (Remove i) = removing i
asked_of (Access i) = accessing i
asked_of (Rank end b) = ranking end b
asked_of (Select k b) = selecting k b
asked_of Quiet = quiet

-- three words are read as the order that they ask, and are malformed where they ask nothing
abbrev pub Reads : List ℕ → Result Order Refusal → Type 0
Reads ws (Ok o) = asked_by ws ≡ asked_of o
Reads ws (Err e) = (e ≡ Malformed) × (asked_by ws ≡ unknown)

-- the three words of an order
abbrev pub words_of : Order → List ℕ
words_of (Insert i b) = 1 ∷ i ∷ digit b ∷ []
words_of (Remove i) = 2 ∷ i ∷ 0 ∷ []
words_of (Access i) = 3 ∷ i ∷ 0 ∷ []
words_of (Rank end b) = 4 ∷ end ∷ digit b ∷ []
words_of (Select k b) = 5 ∷ k ∷ digit b ∷ []
words_of Quiet = 6 ∷ 0 ∷ 0 ∷ []

abbrev pub Writes : Order → List ℕ → Type 0
Writes o ws = ws ≡ words_of o

-- a word is read as the bit that it is, or is malformed
abbrev pub Bit : ℕ → Result Bool Refusal → Type 0
Bit w (Ok b) = (ask : Bool → Asked) → with_bit w ask ≡ ask b
Bit w (Err e) = (e ≡ Malformed) × ((ask : Bool → Asked) → with_bit w ask ≡ unknown)
