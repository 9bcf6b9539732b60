-- Marks written out as words: how far an output has come.
use Rattle.std.specs.Prelude.{ℕ, ◌+◌, ◌*◌, ◌≤◌, ◌<◌, ◌≡◌, Bool, List, ◌++◌, length, drop}
use Rattle.model.specs.Word.{number, words_of}
use Rattle.values.specs.declared.writing.Tail.{Tail}

-- how many marks have been taken in
abbrev pub taken : Tail → ℕ
taken t = t.full * 64 + t.filled

-- n marks more have been taken in
pub record Moved (t : Tail) (n : ℕ) (r : Tail) : Type 0 where
  pub count : taken r ≡ taken t + n
  pub part : r.filled < 64

-- The marks xs have been taken in over the output o: its full words hold the first of them, and the rest wait in the
-- tail.
pub record Written (o : List ℕ) (xs : List Bool) (out : List ℕ) (t : Tail) : Type 0 where
  pub count : length xs ≡ taken t
  pub part : t.filled < 64
  pub words : out ≡ words_of t.full xs ++ drop t.full o
  pub rest : t.word ≡ number (drop (t.full * 64) xs)

-- the marks ys are taken in after any others, wherever the output has room for them
abbrev pub Adds : (ys : List Bool) (before : List ℕ) (t : Tail) (after : List ℕ) (r : Tail) → Type 0
Adds ys before t after r =
    (o : List ℕ) (xs : List Bool) → taken t + length ys ≤ 64 * length o → Written o xs before t
    → Written o (xs ++ ys) after r
