-- How far the program has come in an input: some lines, each by `script::play` from where the one before it left off.
use Rattle.std.specs.Prelude.{ℕ, ◌<◌, List, length}
use Rattle.script.specs.Playing.{desk, LinePlayed}
use Rattle.script.specs.declared.playing.Next.{Next}

-- The first began at the first byte of the input, on the words ws, with no pool in use. Now the next line begins at a
-- place, the pool in use has so many nodes, and the words are those of the last argument. What bytes a line is lent to
-- write on is open.
pub data PlayedTo (input ws : List ℕ) : ℕ → ℕ → List ℕ → Type 0 where
  begun : PlayedTo input ws 0 0 ws
  line : {at n : ℕ} {vs out : List ℕ} {r : Next} {ws' out' : List ℕ}
      → PlayedTo input ws at n vs → at < length input → LinePlayed input at (desk vs n out) r ws' out'
      → PlayedTo input ws r.at r.nodes ws'

-- some lines have been played, and the words are ws' now
abbrev pub Plays : List ℕ → List ℕ → List ℕ → Type 0
Plays input ws ws' = (at : ℕ) × (n : ℕ) × PlayedTo input ws at n ws'
