-- In-word select: what its parts mean, on the list of a word's bits.
use Rattle.std.specs.Prelude.{ℕ, ◌+◌, ◌-◌, ◌*◌, ◌/◌, ◌^◌, ◌≤◌, ◌≡◌, Bool, true, false}
use Rattle.model.specs.Marks.{ones, place, further}
use Rattle.model.specs.Word.{bits}
use Rattle.select.specs.Fields.{field_counts}
use Rattle.select.specs.declared.select.Reached.{Reached}
use Rattle.select.specs.declared.select.Sums.{Sums}

-- the word of n bits in which the wanted bits of w are set: w itself for ones, its opposite for zeros
abbrev pub chosen : ℕ → Bool → ℕ → ℕ
chosen n true w = w
chosen n false w = (2 ^ n - 1) - w

-- the masked sums of a word of 64 bits: the counts of its pairs, of its half bytes and of its bytes
unfoldable pub sums_of : ℕ → Sums
sums_of w = record { pairs = field_counts 2 32 w; halves = field_counts 4 16 w; bytes = field_counts 8 8 w }

-- the search for the k-th set bit of w has come to a run of n bits: it is the left-th set one of those from pos on
pub record Search (w k n : ℕ) (r : Reached) : Type 0 where
  pub inside : r.pos + n ≤ 64
  pub one : 1 ≤ r.left
  pub enough : r.left ≤ ones (bits n (w / 2 ^ r.pos))
  pub same : place k (bits 64 w) ≡ further r.pos (place r.left (bits n (w / 2 ^ r.pos)))

-- the same where the run is a field: pos is a multiple of its width
pub record InField (w k n : ℕ) (r : Reached) : Type 0 where
  pub begins : (j : ℕ) × (r.pos ≡ n * j)
  pub search : Search w k n r
