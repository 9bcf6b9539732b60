-- Text: bytes in ASCII, cut into pieces, and numbers as digits of a base, the highest first.
use Rattle.std.specs.Prelude.{ℕ, zero, suc, ◌+◌, ◌-◌, ◌*◌, ◌/◌, ◌%◌, ◌^◌, Bool, true, false, ◌&&◌, List, [], ◌∷◌, ◌++◌, eqb, leb, ltb, length, take, drop}
use Rattle.std.specs.Prelude.{Option, None, Some}
use denote.Ref.{Bor}

abbrev pub space : ℕ
space = 32

abbrev pub newline : ℕ
newline = 10

-- ---- pieces

-- a byte put before the first piece
unfoldable pub onto_first : ℕ → List (List ℕ) → List (List ℕ)
onto_first b [] = (b ∷ []) ∷ []
onto_first b (p ∷ ps) = (b ∷ p) ∷ ps

-- the pieces between the marks of a kind; there is always one piece more than there are marks
unfoldable pub pieces : ℕ → List ℕ → List (List ℕ)
pieces mark [] = [] ∷ []
pieces mark (b ∷ bs) = elim (eqb b mark) [ true ↦ [] ∷ pieces mark bs | false ↦ onto_first b (pieces mark bs) ]

-- what stands after the last newline is a line where it is not empty
unfoldable pub closed : List (List ℕ) → List (List ℕ)
closed [] = []
closed ([] ∷ []) = []
closed ((b ∷ bs) ∷ []) = (b ∷ bs) ∷ []
closed (l ∷ m ∷ ls) = l ∷ closed (m ∷ ls)

-- each newline ends a line
unfoldable pub lines : List ℕ → List (List ℕ)
lines bs = closed (pieces newline bs)

-- a line is its fields, between single spaces
unfoldable pub fields : List ℕ → List (List ℕ)
fields bs = pieces space bs

-- two texts are the same
unfoldable pub same : List ℕ → List ℕ → Bool
same [] [] = true
same [] (c ∷ cs) = false
same (b ∷ bs) [] = false
same (b ∷ bs) (c ∷ cs) = eqb b c && same bs cs

-- ---- numbers that are read

-- what a byte is worth as a digit, 0 to 9 and a to f; every other byte is worth 16, too much for any base here
unfoldable pub worth : ℕ → ℕ
worth b = elim (leb 48 b && leb b 57) [
  | true ↦ b - 48
  | false ↦ elim (leb 97 b && leb b 102)
      [ true ↦ b - 87 | false ↦ 16 ]
]

-- every byte is a digit of the base
unfoldable pub all_digits : ℕ → List ℕ → Bool
all_digits base [] = true
all_digits base (b ∷ bs) = ltb (worth b) base && all_digits base bs

-- a digit counts its worth as often as the digits after it can tell apart
unfoldable pub value_of : ℕ → List ℕ → ℕ
value_of base [] = 0
value_of base (b ∷ bs) = worth b * base ^ length bs + value_of base bs

-- the number that digits of a base make
unfoldable pub numeral : ℕ → List ℕ → Option ℕ
numeral base bs = elim (all_digits base bs) [ true ↦ Some (value_of base bs) | false ↦ None ]

-- 1 to 18 decimal digits; zeros may lead
unfoldable pub decimal : List ℕ → Option ℕ
decimal bs = elim (leb 1 (length bs) && leb (length bs) 18) [ true ↦ numeral 10 bs | false ↦ None ]

-- exactly 16 hexadecimal digits, in lower case
unfoldable pub hex_word : List ℕ → Option ℕ
hex_word bs = elim (eqb (length bs) 16) [ true ↦ numeral 16 bs | false ↦ None ]

-- ---- numbers that are told

-- the byte of a digit below 16
unfoldable pub glyph : ℕ → ℕ
glyph d = elim (ltb d 10) [ true ↦ 48 + d | false ↦ 87 + d ]

-- the last k digits of n
unfoldable pub digits : ℕ → ℕ → ℕ → List ℕ
digits base zero n = []
digits base (suc k) n = digits base k (n / base) ++ (glyph (n % base) ∷ [])

-- the first count from k on, within so many tries, of decimal digits that n fits
unfoldable pub fitting : ℕ → ℕ → ℕ → ℕ
fitting zero k n = k
fitting (suc tries) k n = elim (ltb n (10 ^ k)) [ true ↦ k | false ↦ fitting tries (suc k) n ]

-- a number in decimal, with no leading zero; a word has at most 20 digits
unfoldable pub decimal_text : ℕ → List ℕ
decimal_text n = digits 10 (fitting 19 1 n) n

-- a word in 16 hexadecimal digits
unfoldable pub hex_text : ℕ → List ℕ
hex_text w = digits 16 16 w

-- ---- bytes in a row

-- some bytes with a text put over them from a place on
unfoldable pub over : ℕ → List ℕ → List ℕ → List ℕ
over at ts bs = take at bs ++ ts ++ drop (at + length ts) bs

-- ---- what the code hands back

-- the fields that are left where something is
unfoldable pub fields_left : Option (Bor (List ℕ)) → List (List ℕ)
fields_left (Some rest) = fields rest.now
fields_left None = []
