-- What a host does with one window, in the words that it lends and reads: it builds, and then runs list after list.
-- Only calls that were accepted are told here, those that were answered 0; a call that is refused changes no word, so
-- it may be left out.
use Rattle.std.specs.Prelude.{ℕ, ◌+◌, ◌-◌, ◌*◌, ◌≡◌, List, [], ◌∷◌, ◌++◌, length, take, drop, get_or, Ok}
use Rattle.pool.specs.Node.{node_words}
use Rattle.run.specs.Runs.{Ran, order_count}
use Rattle.window.specs.Calls.{BuildsTo}
use Rattle.window.specs.Layout.{WellFormed, trailer_in}
use Rattle.order.specs.Asked.{Asked, asks}
use Rattle.window.specs.declared.trailer.Trailer.{Trailer}

-- the trailer of a pool: its last six words
abbrev pub trailer : List ℕ → Trailer
trailer ws = trailer_in (drop (length ws - node_words) ws)

-- ---- orders and their answers

-- an order, three words, and its answer, two
pub record Entry : Type 0 where
  pub number : ℕ
  pub second : ℕ
  pub third : ℕ
  pub code : ℕ
  pub value : ℕ

-- what it asks
abbrev pub asked : Entry → Asked
asked e = asks e.number e.second e.third

-- a host's log: each order of some words, with its answer
unfoldable pub log : List ℕ → List ℕ → List Entry
log [] told = []
log (n ∷ []) told = []
log (n ∷ x ∷ []) told = []
log (n ∷ x ∷ y ∷ orders) [] = []
log (n ∷ x ∷ y ∷ orders) (c ∷ []) = []
log (n ∷ x ∷ y ∷ orders) (c ∷ v ∷ told) =
    record { number = n; second = x; third = y; code = c; value = v } ∷ log orders told

-- ---- runs

-- A list of orders was run on the words ws and accepted: the words are ws' then, and `told` are the answers, which
-- stand first in the output, two words for each order. What the output was before does not matter.
pub record Accepted (ws orders ws' told : List ℕ) : Type 0 where
  pub out : List ℕ
  pub out' : List ℕ
  pub ran : Ran ws orders out (Ok (order_count orders)) ws' out'
  pub answers : told ≡ take (2 * order_count orders) out'

-- several lists, one after the other; `told` are all their answers
abbrev pub Runs : List (List ℕ) → List ℕ → List ℕ → List ℕ → Type 0
Runs [] ws ws' told = (ws' ≡ ws) × (told ≡ [])
Runs (orders ∷ lists) ws ws' told =
    (next : List ℕ) × (first : List ℕ) × (rest : List ℕ)
    × Accepted ws orders next first × Runs lists next ws' rest × (told ≡ first ++ rest)

-- all their orders
unfoldable pub all_orders : List (List ℕ) → List ℕ
all_orders [] = []
all_orders (orders ∷ lists) = orders ++ all_orders lists

-- A window was built in the lent words `slice`, from the first marks of some words, so many; then these lists were run.
-- The words are ws now, and `told` is all that was answered.
pub record History (slice words : List ℕ) (len : ℕ) (lists : List (List ℕ)) (ws told : List ℕ) : Type 0 where
  pub begun : List ℕ
  pub built : BuildsTo slice words len (Ok len) begun
  pub ran : Runs lists begun ws told

-- ---- one order among others

-- one order with its answer, and the pool's words before it and after it
pub record Exchange : Type 0 where
  pub entry : Entry
  pub before : List ℕ
  pub after : List ℕ

abbrev pub order_words : Entry → List ℕ
order_words e = e.number ∷ e.second ∷ e.third ∷ []

-- It is one of the orders of an accepted run on the words ws: `front` are the orders before it, `back` those behind it.
-- The words before it are those that a run of the front leaves, the words after it those that a run leaves which ends
-- with it; its answer stands in the output at its place. (A run is accepted on well-formed words alone.)
pub record InRun (ws : List ℕ) (e : Exchange) : Type 0 where
  pub well_formed : WellFormed ws
  pub front : List ℕ
  pub back : List ℕ
  pub end : List ℕ
  pub told_before : List ℕ
  pub told_after : List ℕ
  pub told : List ℕ
  pub until : Accepted ws front e.before told_before
  pub through : Accepted ws (front ++ order_words e.entry) e.after told_after
  pub whole : Accepted ws (front ++ (order_words e.entry ++ back)) end told
  pub code : e.entry.code ≡ get_or told (2 * order_count front) 0
  pub value : e.entry.value ≡ get_or told (2 * order_count front + 1) 0
