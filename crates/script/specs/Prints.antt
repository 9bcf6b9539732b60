-- What a script prints: for each line one, with a code and a value, by what the pool holds when the line is played.
use Rattle.std.specs.Prelude.{ℕ, ◌*◌, Bool, true, false, ◌&&◌, List, [], ◌∷◌, ◌++◌, leb, length, take}
use Rattle.std.specs.Prelude.{Option, None, Some, Ok, Err}
use Rattle.model.specs.Pool as Pool
use Rattle.model.specs.Pool.{Pool}
use Rattle.model.specs.Tree.{marks, size}
use Rattle.model.specs.Word.{marks_of, words_of, words_for}
use Rattle.order.specs.Answer.{Answer, code, value}
use Rattle.model.specs.Limits.{most_nodes}
use Rattle.run.specs.Orders.{after, answer}
use Rattle.order.specs.declared.answer.Refusal.TheVariants.{Full, Malformed, WrongSize, NotSound, TooLong}
use Rattle.text.specs.Text.{lines}
use Rattle.grammar.specs.Lines.{Wanted, dumping, loading, ordering, pooling, wanted}
use Rattle.text.specs.Text.{decimal_text, hex_text, newline, space}

-- ---- what is held

-- no pool has begun; a pool of so many nodes stands; or there are words for so many nodes in which none stands, to
-- which a script never comes
pub data State : Type 0 where
  nothing : State
  holding : ℕ → Pool → State
  damaged : ℕ → State

-- a pool may have so many nodes
unfoldable pub sized : ℕ → Bool
sized n = leb 1 n && leb n most_nodes

-- a pool of n nodes that has been made, or what was held before
unfoldable pub now_holding : ℕ → Option Pool → State → State
now_holding n (Some p) s = holding n p
now_holding n None s = s

-- ---- a load

-- the pool of n nodes with the first marks of some words, so many, where they have as many and there is room
unfoldable pub loaded : ℕ → ℕ → List ℕ → Option Pool
loaded n len ws = elim (leb len (64 * length ws)) [ true ↦ Pool.build n (take len (marks_of ws)) | false ↦ None ]

abbrev pub built : ℕ → Option Pool → Answer
built len (Some p) = Ok len
built len None = Err Full

unfoldable pub load_answer : ℕ → ℕ → List ℕ → Answer
load_answer n len ws =
    elim (leb len (64 * length ws)) [ true ↦ built len (Pool.build n (take len (marks_of ws))) | false ↦ Err TooLong ]

-- ---- a line

-- what a line is answered
unfoldable pub answered : Wanted → State → Answer
answered (pooling n) s = elim (sized n) [ true ↦ Ok n | false ↦ Err WrongSize ]
answered (loading len ws) nothing = Err WrongSize
answered (loading len ws) (holding n p) = load_answer n len ws
answered (loading len ws) (damaged n) = load_answer n len ws
answered (ordering o) nothing = Err WrongSize
answered (ordering o) (holding n p) = answer o p
answered (ordering o) (damaged n) = Err NotSound
answered dumping nothing = Err WrongSize
answered dumping (holding n p) = Ok (size p.tree)
answered dumping (damaged n) = Err NotSound

-- the words that are told with it: a dump's
unfoldable pub shown : Wanted → State → List ℕ
shown (pooling n) s = []
shown (loading len ws) s = []
shown (ordering o) s = []
shown dumping nothing = []
shown dumping (holding n p) = words_of (words_for (size p.tree)) (marks p.tree)
shown dumping (damaged n) = []

-- what is held after it
unfoldable pub left_by : Wanted → State → State
left_by (pooling n) s = elim (sized n) [ true ↦ now_holding n (Pool.build n []) s | false ↦ s ]
left_by (loading len ws) nothing = nothing
left_by (loading len ws) (holding n p) = now_holding n (loaded n len ws) (holding n p)
left_by (loading len ws) (damaged n) = now_holding n (loaded n len ws) (damaged n)
left_by (ordering o) nothing = nothing
left_by (ordering o) (holding n p) = holding n (after o p)
left_by (ordering o) (damaged n) = damaged n
left_by dumping s = s

-- ---- text

-- each word after a space
unfoldable pub words_text : List ℕ → List ℕ
words_text [] = []
words_text (w ∷ ws) = (space ∷ hex_text w) ++ words_text ws

-- a line of a code, a value and some words
unfoldable pub line_text : ℕ → ℕ → List ℕ → List ℕ
line_text c v ws = decimal_text c ++ (space ∷ decimal_text v) ++ words_text ws ++ newline ∷ []

-- what a line prints, and what is held after it; a malformed line asks for nothing and changes nothing
unfoldable pub says : Option Wanted → State → List ℕ
says None s = line_text (code (Err Malformed)) (value (Err Malformed)) []
says (Some w) s = line_text (code (answered w s)) (value (answered w s)) (shown w s)

unfoldable pub leaves : Option Wanted → State → State
leaves None s = s
leaves (Some w) s = left_by w s

-- ---- a whole input

unfoldable pub all_say : List (List ℕ) → State → List ℕ
all_say [] s = []
all_say (l ∷ ls) s = says (wanted l) s ++ all_say ls (leaves (wanted l) s)

-- what is held after some lines
unfoldable pub all_leave : List (List ℕ) → State → State
all_leave [] s = s
all_leave (l ∷ ls) s = all_leave ls (leaves (wanted l) s)

abbrev pub Undamaged : State → Type 0
Undamaged nothing = Unit {0}
Undamaged (holding n p) = Unit {0}
Undamaged (damaged n) = ⊥

abbrev pub most_input : ℕ
most_input = 16384

-- the only answer to an input that is too long
unfoldable pub too_long : List ℕ
too_long = line_text 12 0 []

-- what an input prints
unfoldable pub prints : List ℕ → List ℕ
prints input = elim (leb (length input) most_input) [ true ↦ all_say (lines input) nothing | false ↦ too_long ]
