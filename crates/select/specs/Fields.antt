-- A word cut into fields of equal width, and in each field how many of its bits are set.
use Rattle.std.specs.Prelude.{ℕ, zero, suc, ◌+◌, ◌*◌, ◌/◌, ◌^◌}
use Rattle.model.specs.Marks.{ones}
use Rattle.model.specs.Word.{bits}

-- the word whose m lowest fields of k bits each hold how many bits of that field of w are set, lowest field first
unfoldable pub field_counts : ℕ → ℕ → ℕ → ℕ
field_counts k zero w = zero
field_counts k (suc m) w = field_counts k m (w / 2 ^ k) * 2 ^ k + ones (bits k w)
