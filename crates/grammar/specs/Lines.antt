-- The lines of a script, and what each asks for.
--
--     pool N          an empty pool of N nodes
--     load LEN HEX..  the marks of none or more words
--     ins I B         an insert at I
--     rem I           a remove
--     get I           the mark at I
--     rank B E        how many marks of a kind stand before E
--     sel B K         where the K-th of a kind stands
--     gap             the longest quiet
--     dump            the length, and the marks as words
use Rattle.std.specs.Prelude.{ℕ, zero, suc, ◌≤◌, ◌≡◌, Bool, true, false, List, [], ◌∷◌, length, take}
use Rattle.std.specs.Prelude.{Option, None, Some, option_and_then}
use Rattle.order.specs.Asked.{Asked, asked_of, inserting, removing, accessing, ranking, selecting, quiet}
use Rattle.text.specs.Text.{decimal, fields, hex_word, same}
use Rattle.grammar.specs.declared.fields.Name.{Name}
use Rattle.grammar.specs.declared.fields.Name.TheVariants.{Pool, Load, Insert, Remove, Get, Rank, Select, Gap, Dump}
use Rattle.grammar.specs.declared.reading.Line.{Line}
use Rattle.grammar.specs.declared.reading.Line.TheVariants.{Pool as Line_as_Pool, Load as Line_as_Load, Order as Line_as_Order, Dump as Line_as_Dump}

-- ---- names

unfoldable pub spelled : Name → List ℕ
spelled Pool = 112 ∷ 111 ∷ 111 ∷ 108 ∷ []
spelled Load = 108 ∷ 111 ∷ 97 ∷ 100 ∷ []
spelled Insert = 105 ∷ 110 ∷ 115 ∷ []
spelled Remove = 114 ∷ 101 ∷ 109 ∷ []
spelled Get = 103 ∷ 101 ∷ 116 ∷ []
spelled Rank = 114 ∷ 97 ∷ 110 ∷ 107 ∷ []
spelled Select = 115 ∷ 101 ∷ 108 ∷ []
spelled Gap = 103 ∷ 97 ∷ 112 ∷ []
spelled Dump = 100 ∷ 117 ∷ 109 ∷ 112 ∷ []

-- the first of some names that is spelled so
unfoldable pub first_named : List ℕ → List Name → Option Name
first_named bs [] = None
first_named bs (n ∷ ns) = elim (same bs (spelled n)) [ true ↦ Some n | false ↦ first_named bs ns ]

abbrev pub names : List Name
names = Pool ∷ Load ∷ Insert ∷ Remove ∷ Get ∷ Rank ∷ Select ∷ Gap ∷ Dump ∷ []

-- the name that a field is, if it is one
unfoldable pub named : List ℕ → Option Name
named bs = first_named bs names

-- ---- what a line asks for

pub data Wanted : Type 0 where
  pooling : ℕ → Wanted
  loading : ℕ → List ℕ → Wanted
  ordering : Asked → Wanted
  dumping : Wanted

-- no field
unfoldable pub no_field : List (List ℕ) → Option Wanted → Option Wanted
no_field [] w = w
no_field (f ∷ fs) w = None

-- exactly one field, a decimal
unfoldable pub one_number : List (List ℕ) → (ℕ → Option Wanted) → Option Wanted
one_number [] ask = None
one_number (f ∷ []) ask = option_and_then ask (decimal f)
one_number (f ∷ g ∷ fs) ask = None

-- exactly two fields, both decimals
unfoldable pub two_numbers : List (List ℕ) → (ℕ → ℕ → Option Wanted) → Option Wanted
two_numbers [] ask = None
two_numbers (f ∷ fs) ask = option_and_then (λ m. one_number fs (ask m)) (decimal f)

-- every field is a word
unfoldable pub hex_words : List (List ℕ) → Option (List ℕ)
hex_words [] = Some []
hex_words (f ∷ fs) = option_and_then (λ w. option_and_then (λ ws. Some (w ∷ ws)) (hex_words fs)) (hex_word f)

-- a decimal, and then none or more words
unfoldable pub load_of : List (List ℕ) → Option Wanted
load_of [] = None
load_of (f ∷ fs) = option_and_then (λ len. option_and_then (λ ws. Some (loading len ws)) (hex_words fs)) (decimal f)

-- an order with a number that is to be a bit, 0 or 1
unfoldable pub order_with : ℕ → (Bool → Asked) → Option Wanted
order_with zero ask = Some (ordering (ask false))
order_with (suc zero) ask = Some (ordering (ask true))
order_with (suc (suc b)) ask = None

-- the line of a name and the fields after it; none where there is no such line
unfoldable pub line_of : Name → List (List ℕ) → Option Wanted
line_of Pool fs = one_number fs (λ n. Some (pooling n))
line_of Load fs = load_of fs
line_of Insert fs = two_numbers fs (λ i b. order_with b (inserting i))
line_of Remove fs = one_number fs (λ i. Some (ordering (removing i)))
line_of Get fs = one_number fs (λ i. Some (ordering (accessing i)))
line_of Rank fs = two_numbers fs (λ b e. order_with b (ranking e))
line_of Select fs = two_numbers fs (λ b k. order_with b (selecting k))
line_of Gap fs = no_field fs (Some (ordering quiet))
line_of Dump fs = no_field fs (Some dumping)

-- the first field is the name
unfoldable pub wanted_of : List (List ℕ) → Option Wanted
wanted_of [] = None
wanted_of (f ∷ fs) = option_and_then (λ n. line_of n fs) (named f)

-- what a line asks for; none where it is malformed
unfoldable pub wanted : List ℕ → Option Wanted
wanted bs = wanted_of (fields bs)

-- ---- what the code hands back

-- what is wanted was told so, with a load's words at the beginning of ws
abbrev pub Tells : Option Wanted → Option Line → List ℕ → Type 0
Tells w (Some (Line_as_Pool n)) ws = w ≡ Some (pooling n)
Tells w (Some (Line_as_Load l)) ws = (l.count ≤ length ws) × (w ≡ Some (loading l.length (take l.count ws)))
Tells w (Some (Line_as_Order o)) ws = w ≡ Some (ordering (asked_of o))
Tells w (Some Line_as_Dump) ws = w ≡ Some dumping
Tells w None ws = w ≡ None

-- a line was read so
unfoldable pub Reads : List ℕ → Option Line → List ℕ → Type 0
Reads bs r ws = Tells (wanted bs) r ws

-- what is asked with two numbers, where there are two
abbrev pub given : Option (ℕ × ℕ) → (ℕ → ℕ → Option Wanted) → Option Wanted
given (Some t) ask = ask t.0 t.1
given None ask = None

-- the order with a bit, where there is one
abbrev pub marked : Option Bool → (Bool → Asked) → Option Wanted
marked (Some b) ask = Some (ordering (ask b))
marked None ask = None

-- the order with a place and a bit, where there are both
abbrev pub marked_at : Option (ℕ × Bool) → (ℕ → Bool → Asked) → Option Wanted
marked_at (Some t) ask = Some (ordering (ask t.0 t.1))
marked_at None ask = None

-- words were read, so many, and stand at the beginning of ws
abbrev pub WordsRead : Option (List ℕ) → Option ℕ → List ℕ → Type 0
WordsRead o (Some n) ws = (n ≤ length ws) × (o ≡ Some (take n ws))
WordsRead o None ws = o ≡ None
