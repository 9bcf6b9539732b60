-- The orders of a window: three words each, served one after the other on the pool that stands in its words. Two nodes
-- may be taken where two are free.
use Rattle.std.specs.Prelude.{ℕ, ◌≡◌, Bool, List, [], ◌∷◌}
use Rattle.model.specs.Pool.{Pool, two_free}
use Rattle.order.specs.Answer.{Answer, code, value}
use Rattle.serve.specs.Orders as Serve
use Rattle.order.specs.Asked.{Asked, asks}
use Rattle.order.specs.Plain.{list_answer, list_after}
use Rattle.window.specs.Layout.{Stands}

-- three words for each order; a part of one asks nothing
unfoldable pub orders_of : List ℕ → List Asked
orders_of (n ∷ x ∷ y ∷ ws) = asks n x y ∷ orders_of ws
orders_of (n ∷ x ∷ []) = []
orders_of (n ∷ []) = []
orders_of [] = []

-- ---- a pool

-- an order finds no room in a pool; what the pool answers; and the pool afterwards
abbrev pub no_room : Asked → Pool → Bool
no_room o p = Serve.no_room (two_free p) o p

abbrev pub answer : Asked → Pool → Answer
answer o p = Serve.answer (two_free p) o p

abbrev pub after : Asked → Pool → Pool
after o p = Serve.after (two_free p) o p

-- An order has been served: so answered, and the words of a pool of n nodes, p before, are ws' now.
pub record Served (ws' : List ℕ) (n : ℕ) (o : Asked) (p : Pool) (r : Answer) : Type 0 where
  pub answered : r ≡ answer o p
  pub stands : Stands ws' n (after o p)

-- ---- a list of orders, one after the other

unfoldable pub answers : List Asked → Pool → List Answer
answers [] p = []
answers (o ∷ os) p = answer o p ∷ answers os (after o p)

unfoldable pub after_all : List Asked → Pool → Pool
after_all [] p = p
after_all (o ∷ os) p = after_all os (after o p)

-- the answers as words, two for each: its number and its value
unfoldable pub answer_words : List Answer → List ℕ
answer_words [] = []
answer_words (a ∷ rest) = code a ∷ value a ∷ answer_words rest

-- the same of the plain list
unfoldable pub list_answers : List Asked → List Bool → List Answer
list_answers [] xs = []
list_answers (o ∷ os) xs = list_answer o xs ∷ list_answers os (list_after o xs)

unfoldable pub list_after_all : List Asked → List Bool → List Bool
list_after_all [] xs = xs
list_after_all (o ∷ os) xs = list_after_all os (list_after o xs)
