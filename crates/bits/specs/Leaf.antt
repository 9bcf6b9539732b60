-- A leaf of two words as a list of marks, and back.
use Rattle.std.specs.Prelude.{ℕ, Bool, List, ◌++◌, take, drop}
use Rattle.model.specs.Word.{bits, number, word_bits}
use Rattle.bits.specs.declared.leaf.Leaf.{Leaf}

-- the 128 bits of a leaf, lowest first
unfoldable pub bits_of : Leaf → List Bool
bits_of l = bits word_bits l.low ++ bits word_bits l.high

-- the word that holds the first 64 of these marks, and zeros past them
unfoldable pub packed : List Bool → ℕ
packed xs = number (take word_bits xs)

-- the leaf that holds these marks, and zeros past them; it has room for 128
unfoldable pub leaf_of : List Bool → Leaf
leaf_of xs = record { low = packed xs; high = packed (drop word_bits xs) }

-- the marks cut after the 64th, each part in a leaf
unfoldable pub halves_of : List Bool → Leaf × Leaf
halves_of xs = (leaf_of (take word_bits xs), leaf_of (drop word_bits xs))
