-- Which nodes have been met: a bit for each node, 64 to a word, the lowest first, and how many more may be met.
use Rattle.std.specs.Prelude.{ℕ, ◌+◌, ◌*◌, ◌/◌, ◌%◌, ◌^◌, ◌<◌, ◌≤◌, ◌≡◌, Bool, true, false, ◌⊎◌}
use Rattle.std.specs.Prelude.{length, get_or, replicate}
use mathlib.Core.List.{List, [], ◌∷◌, Memᴰ}
use Rattle.model.specs.Sound.{Distinct}
use Rattle.model.specs.Word.{odd, word_bits}
use Rattle.sound.specs.declared.met.Met.{Met}

-- the words that have a bit for each of 1,024 nodes
abbrev pub met_words : ℕ
met_words = 16

-- node k has been met
unfoldable pub met_at : List ℕ → ℕ → Bool
met_at met k = odd (get_or met (k / word_bits) 0 / 2 ^ (k % word_bits))

-- none of these nodes stands twice, none has been met, and there is a bit for each
pub record Fresh (met ks : List ℕ) : Type 0 where
  pub distinct : Distinct ks
  pub room : (k : ℕ) → Memᴰ k ks → k < word_bits * length met
  pub unmet : (k : ℕ) → Memᴰ k ks → met_at met k ≡ false

-- these nodes have been met since, and no others
pub record Marked (met met' ks : List ℕ) : Type 0 where
  pub size : length met' ≡ length met
  pub here : (k : ℕ) → Memᴰ k ks → met_at met' k ≡ true
  pub kept : (k : ℕ) → met_at met k ≡ true → met_at met' k ≡ true
  pub only : (k : ℕ) → met_at met' k ≡ true → Memᴰ k ks ⊎ (met_at met k ≡ true)

-- no node has been met, and so many may be
abbrev pub none_met : ℕ → Met
none_met room = record { words = replicate met_words 0; room = room }

-- what it says that node n is met now: it is fresh, and there is room for it
pub record Meets (m m' : Met) (n : ℕ) (r : Bool) : Type 0 where
  pub yes : r ≡ true → (m'.room + 1 ≡ m.room) × Fresh m.words (n ∷ []) × Marked m.words m'.words (n ∷ [])
  pub no : 1 ≤ m.room → Fresh m.words (n ∷ []) → r ≡ true
