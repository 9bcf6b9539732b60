-- Words of the machine as a list of bits, lowest first, and back.
use Rattle.std.specs.Prelude.{ℕ, zero, suc, ◌+◌, ◌*◌, ◌/◌, ◌%◌, Bool, true, false, List, [], ◌∷◌, ◌++◌, eqb, take, drop}

-- the lowest bit of a number is set
unfoldable pub odd : ℕ → Bool
odd w = eqb (w % 2) 1

-- the n lowest bits of a number, the lowest first
unfoldable pub bits : ℕ → ℕ → List Bool
bits zero w = []
bits (suc n) w = odd w ∷ bits n (w / 2)

-- a bit as a number
unfoldable pub digit : Bool → ℕ
digit true = 1
digit false = zero

-- the number whose bits are these, the lowest first
unfoldable pub number : List Bool → ℕ
number [] = zero
number (b ∷ bs) = number bs * 2 + digit b

-- ---- several words

-- the bits of a word of the pool, of the input and of the output
abbrev pub word_bits : ℕ
word_bits = 64

-- the marks of some words, the lowest bit of the first word first
unfoldable pub marks_of : List ℕ → List Bool
marks_of [] = []
marks_of (w ∷ ws) = bits word_bits w ++ marks_of ws

-- marks in so many words, the last ones padded with zeros
unfoldable pub words_of : ℕ → List Bool → List ℕ
words_of zero xs = []
words_of (suc k) xs = number (take word_bits xs) ∷ words_of k (drop word_bits xs)

-- how many words are written for so many marks: two for each 128 begun
unfoldable pub words_for : ℕ → ℕ
words_for n = (n + 127) / 128 * 2
