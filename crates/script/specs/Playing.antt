-- What a line does: it is played on a pool's words, and its answer is written at the beginning of some bytes.
use Rattle.std.specs.Prelude.{ℕ, zero, suc, ◌*◌, ◌≤◌, ◌<◌, ◌≡◌, true, false, List, [], ◌∷◌, ◌++◌, eqb, length, take, drop}
use Rattle.std.specs.Prelude.{Option, None, Some}
use Rattle.pool.specs.Node.{node_words}
use Rattle.window.specs.Layout.{Stands, WellFormed}
use Rattle.grammar.specs.Lines.{Wanted, wanted}
use Rattle.text.specs.Text.{newline, over}
use Rattle.script.specs.Prints.{State, damaged, holding, leaves, most_input, nothing, says, sized, too_long}
use Rattle.script.specs.declared.playing.Next.{Next}

-- how many words a pool of n nodes has, 0 where no pool has so many nodes
unfoldable pub extent_of : ℕ → ℕ
extent_of n = elim (sized n) [ true ↦ suc n * node_words | false ↦ 0 ]

-- the same, where a pool has so many nodes
unfoldable pub pool_extent : ℕ → Option ℕ
pool_extent n = elim (sized n) [ true ↦ Some (extent_of n) | false ↦ None ]

-- what some words hold, the pool in use having n nodes
unfoldable pub Keeps : List ℕ → ℕ → State → Type 0
Keeps ws n nothing = sized n ≡ false
Keeps ws n (holding m p) = (m ≡ n) × Stands (take (extent_of n) ws) n p
Keeps ws n (damaged m) = (m ≡ n) × (sized n ≡ true) × (WellFormed (take (extent_of n) ws) → ⊥)

-- What a line is played on: a pool's words, of which a pool of so many nodes is in use, and the bytes to write on.
pub record Desk : Type 0 where
  pub words : List ℕ
  pub nodes : ℕ
  pub bytes : List ℕ

abbrev pub desk : List ℕ → ℕ → List ℕ → Desk
desk ws n bytes = record { words = ws; nodes = n; bytes = bytes }

-- A line that asks for w has been played, with s held: d is d' now, and the first `end` of its bytes were written.
-- Words past the pool stay, and where nothing else is held no word changes.
pub record Played (w : Option Wanted) (s : State) (d d' : Desk) (end : ℕ) : Type 0 where
  pub written : d'.bytes ≡ over 0 (says w s) d.bytes
  pub end_is : end ≡ length (says w s)
  pub keeps : Keeps d'.words d'.nodes (leaves w s)
  pub past : drop (extent_of d'.nodes) d'.words ≡ drop (extent_of d'.nodes) d.words
  pub same : leaves w s ≡ s → (d'.nodes ≡ d.nodes) × (d'.words ≡ d.words)

-- the same of whatever is held
abbrev pub Plays : Option Wanted → Desk → Desk → ℕ → Type 0
Plays w d d' end = (s : State) → Keeps d.words d.nodes s → Played w s d d' end

-- ---- the lines of an input, one after the other

unfoldable pub first_line : List ℕ → List ℕ
first_line [] = []
first_line (b ∷ bs) = elim (eqb b newline) [ true ↦ [] | false ↦ b ∷ first_line bs ]

-- what comes after it
unfoldable pub after_line : List ℕ → List ℕ
after_line [] = []
after_line (b ∷ bs) = elim (eqb b newline) [ true ↦ bs | false ↦ after_line bs ]

-- the line of the input that begins at a place is played, and the words and the bytes are ws' and out' now
pub record LinePlayed (input : List ℕ) (at : ℕ) (d : Desk) (r : Next) (ws' out' : List ℕ) : Type 0 where
  pub ended : length input ≤ at
      → (r ≡ record { at = at; nodes = d.nodes; end = 0 }) × (ws' ≡ d.words) × (out' ≡ d.bytes)
  pub long : at < length input → most_input < length input
      → (r ≡ record { at = length input; nodes = d.nodes; end = length too_long })
      × (ws' ≡ d.words) × (out' ≡ over 0 too_long d.bytes)
  pub line : at < length input → length input ≤ most_input → (s : State) → Keeps d.words d.nodes s
      → (at < r.at) × (r.at ≤ length input) × (drop r.at input ≡ after_line (drop at input))
      × Played (wanted (first_line (drop at input))) s d (desk ws' r.nodes out') r.end

-- ---- a whole input

-- An input played from a place to its end in k lines, each from where the one before it left off, on any bytes that are
-- lent; `printed` is what they write, one after the other.
unfoldable pub PlaysAll : ℕ → List ℕ → ℕ → List ℕ → ℕ → List ℕ → Type 0
PlaysAll zero input at ws n printed = (length input ≤ at) × (printed ≡ [])
PlaysAll (suc k) input at ws n printed =
    (at < length input)
    × ((out : List ℕ) × (r : Next) × (ws' : List ℕ) × (out' : List ℕ) × (rest : List ℕ)
    × LinePlayed input at (desk ws n out) r ws' out' × PlaysAll k input r.at ws' r.nodes rest
    × (printed ≡ take r.end out' ++ rest))
