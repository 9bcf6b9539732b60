-- What three words ask, by the tests that the code makes of them.
use Prim.Native.Nat.{ℕ, zero, suc}
use native.Mathlib.Omega.{arith}
use mathlib.Core.Path.{◌≡◌, refl, sym, ap, ◌∙◌}
use mathlib.Core.Bool.{Bool, true, false}
use mir.Val.{bool_byte}
use Rattle.model.specs.Word.{digit}
use Rattle.order.specs.declared.asked.Order.{Order}
use Rattle.order.specs.declared.asked.Order.TheVariants.{Insert, Remove, Access, Rank, Select, Quiet}
use Rattle.order.specs.Asked.{Asked, asked_by, asked_of, words_of, asks, with_bit, with_zero, inserting, removing, accessing, ranking, selecting, quiet, unknown}

-- the order's number
module _ (number x y : ℕ) where
  pub asks_insert : number ≡ 1 → asks number x y ≡ with_bit y (inserting x)
  unfolding asks
  asks_insert e = rw e

  pub asks_remove : number ≡ 2 → asks number x y ≡ with_zero y (removing x)
  unfolding asks
  asks_remove e = rw e

  pub asks_access : number ≡ 3 → asks number x y ≡ with_zero y (accessing x)
  unfolding asks
  asks_access e = rw e

  pub asks_rank : number ≡ 4 → asks number x y ≡ with_bit y (ranking x)
  unfolding asks
  asks_rank e = rw e

  pub asks_select : number ≡ 5 → asks number x y ≡ with_bit y (selecting x)
  unfolding asks
  asks_select e = rw e

  pub asks_quiet : number ≡ 6 → asks number x y ≡ with_zero x (with_zero y quiet)
  unfolding asks
  asks_quiet e = rw e

pub asks_nothing : (number x y : ℕ) → (number ≡ 1 → ⊥) → (number ≡ 2 → ⊥) → (number ≡ 3 → ⊥) → (number ≡ 4 → ⊥) → (number ≡ 5 → ⊥) → (number ≡ 6 → ⊥)
    → asks number x y ≡ unknown
unfolding asks
asks_nothing zero x y a b c d e f = refl
asks_nothing (suc zero) x y a b c d e f = absurd (a refl)
asks_nothing (suc (suc zero)) x y a b c d e f = absurd (b refl)
asks_nothing (suc (suc (suc zero))) x y a b c d e f = absurd (c refl)
asks_nothing (suc (suc (suc (suc zero)))) x y a b c d e f = absurd (d refl)
asks_nothing (suc (suc (suc (suc (suc zero))))) x y a b c d e f = absurd (e refl)
asks_nothing (suc (suc (suc (suc (suc (suc zero)))))) x y a b c d e f = absurd (f refl)
asks_nothing (suc (suc (suc (suc (suc (suc (suc n))))))) x y a b c d e f = refl

-- a word that is to be a bit, and one that is to be zero
module _ (y : ℕ) (ask : Bool → Asked) where
  pub bit_clear : y ≡ 0 → with_bit y ask ≡ ask false
  unfolding with_bit
  bit_clear e = rw e

  pub bit_set : y ≡ 1 → with_bit y ask ≡ ask true
  unfolding with_bit
  bit_set e = rw e

-- a bit as a number
pub bit_word : (b : Bool) → bool_byte b ≡ digit b
unfolding digit
bit_word true = refl
bit_word false = refl

pub bit_digit : (b : Bool) (ask : Bool → Asked) → with_bit (digit b) ask ≡ ask b
unfolding with_bit digit
bit_digit true ask = refl
bit_digit false ask = refl

pub no_bit : (y : ℕ) (ask : Bool → Asked) → (y ≡ 0 → ⊥) → (y ≡ 1 → ⊥) → with_bit y ask ≡ unknown
unfolding with_bit
no_bit zero ask a b = absurd (a refl)
no_bit (suc zero) ask a b = absurd (b refl)
no_bit (suc (suc y)) ask a b = refl

pub is_zero : (y : ℕ) (ask : Asked) → y ≡ 0 → with_zero y ask ≡ ask
unfolding with_zero
is_zero y ask e = rw e

pub no_zero : (y : ℕ) (ask : Asked) → (y ≡ 0 → ⊥) → with_zero y ask ≡ unknown
unfolding with_zero
no_zero zero ask a = absurd (a refl)
no_zero (suc y) ask a = refl

-- the words of an order ask it
pub words_ask : (o : Order) → asked_by (words_of o) ≡ asked_of o
words_ask (Insert i b) = asks_insert _ _ _ refl ∙ bit_digit b _
words_ask (Remove i) = asks_remove _ _ _ refl ∙ is_zero _ _ refl
words_ask (Access i) = asks_access _ _ _ refl ∙ is_zero _ _ refl
words_ask (Rank end b) = asks_rank _ _ _ refl ∙ bit_digit b _
words_ask (Select k b) = asks_select _ _ _ refl ∙ bit_digit b _
words_ask Quiet = asks_quiet _ _ _ refl ∙ is_zero _ _ refl ∙ is_zero _ _ refl

-- the order that asks so
pub order_of : Asked → Order
order_of (inserting i b) = Insert i b
order_of (removing i) = Remove i
order_of (accessing i) = Access i
order_of (ranking end b) = Rank end b
order_of (selecting k b) = Select k b
order_of quiet = Quiet
order_of unknown = Quiet

pub asks_back : (o : Order) → order_of (asked_of o) ≡ o
unfolding order_of
asks_back (Insert i b) = refl
asks_back (Remove i) = refl
asks_back (Access i) = refl
asks_back (Rank end b) = refl
asks_back (Select k b) = refl
asks_back Quiet = refl

-- orders that ask the same are the same
pub one_order : (o r : Order) → asked_of o ≡ asked_of r → o ≡ r
one_order o r e = sym (asks_back o) ∙ ap order_of e ∙ asks_back r

-- an order asks something
pub asks_some : (o : Order) → asked_of o ≡ unknown → ⊥
asks_some o e = let told = sym (known_is o) ∙ ap known e in let never : ◌≡◌ {A = ℕ} 0 1 = cc in absurd (omega (arith, never))
  where
    known : Asked → Bool
    known (inserting i b) = true
    known (removing i) = true
    known (accessing i) = true
    known (ranking end b) = true
    known (selecting k b) = true
    known quiet = true
    known unknown = false

    known_is : (p : Order) → known (asked_of p) ≡ true
    known_is (Insert i b) = refl
    known_is (Remove i) = refl
    known_is (Access i) = refl
    known_is (Rank end b) = refl
    known_is (Select k b) = refl
    known_is Quiet = refl
