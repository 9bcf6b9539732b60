-- What the calls answer and leave, for all words, by each call's sequence of tests.
use Rattle.std.specs.Prelude.{ℕ, ◌*◌, ◌≤◌, ◌<◌, ◌≡◌, List, ◌++◌, length, take, drop}
use Rattle.std.specs.Prelude.{None, Some, Result, Ok, Err}
use Rattle.model.specs.Pool as Pool
use Rattle.model.specs.Pool.{Pool}
use Rattle.model.specs.Tree.{marks, size}
use Rattle.model.specs.Word.{marks_of, words_of, words_for}
use Rattle.window.specs.Layout.{Counted, Stands, WellFormed, trailer_in}
use Rattle.window.specs.declared.trailer.Trailer.{Trailer}
use Rattle.order.specs.Answer.{Answer}
use Rattle.order.specs.declared.answer.Refusal.{Refusal}
use Rattle.order.specs.declared.answer.Refusal.TheVariants.{Full, WrongSize, NotSound, ShortOutput, TooLong}

-- no pool has so many words
abbrev pub NoPool : List ℕ → Type 0
NoPool ws = (n : ℕ) → Counted ws n → ⊥

-- the words are as many as a pool's, but none stands in them
pub record Damaged (ws : List ℕ) : Type 0 where
  pub count : (n : ℕ) × Counted ws n
  pub none : WellFormed ws → ⊥

-- how many nodes a pool of these words has, or that none has so many words
abbrev pub Measures : List ℕ → Result ℕ Refusal → Type 0
Measures ws (Ok n) = Counted ws n
Measures ws (Err e) = (e ≡ WrongSize) × NoPool ws

-- a pool of n nodes stands in these words, and its trailer is told, or none does
abbrev pub Judges : List ℕ → ℕ → Result Trailer Refusal → Type 0
Judges ws n (Ok t) = (p : Pool) × Stands ws n p × (t ≡ trailer_in (drop (n * 6) ws))
Judges ws n (Err e) = (e ≡ NotSound) × (WellFormed ws → ⊥)

-- ---- check: its tests are 6, 7

pub record Checked (ws : List ℕ) (r : Answer) : Type 0 where
  pub no_pool : NoPool ws → r ≡ Err WrongSize
  pub damaged : Damaged ws → r ≡ Err NotSound
  pub sound : (n : ℕ) (p : Pool) → Stands ws n p → r ≡ Ok (size p.tree)

-- ---- build: its tests are 6, 10, 4

-- ws and ws' are the pool's words before and after
pub record BuildsTo (ws : List ℕ) (words : List ℕ) (len : ℕ) (r : Answer) (ws' : List ℕ) : Type 0 where
  pub no_pool : NoPool ws → (r ≡ Err WrongSize) × (ws' ≡ ws)
  pub too_long : (n : ℕ) → Counted ws n → 64 * length words < len → (r ≡ Err TooLong) × (ws' ≡ ws)
  pub full : (n : ℕ) → Counted ws n → len ≤ 64 * length words → Pool.build n (take len (marks_of words)) ≡ None
      → (r ≡ Err Full) × (ws' ≡ ws)
  pub built : (n : ℕ) (p : Pool) → Counted ws n → len ≤ 64 * length words
      → Pool.build n (take len (marks_of words)) ≡ Some p
      → (r ≡ Ok len) × Stands ws' n p

-- ---- values: its tests are 6, 7, 8

-- out and out' are the output before and after
pub record Valued (ws : List ℕ) (out : List ℕ) (r : Answer) (out' : List ℕ) : Type 0 where
  pub no_pool : NoPool ws → (r ≡ Err WrongSize) × (out' ≡ out)
  pub damaged : Damaged ws → (r ≡ Err NotSound) × (out' ≡ out)
  pub short : (n : ℕ) (p : Pool) → Stands ws n p → length out < words_for (size p.tree)
      → (r ≡ Err ShortOutput) × (out' ≡ out)
  pub written : (n : ℕ) (p : Pool) → Stands ws n p → words_for (size p.tree) ≤ length out
      → (r ≡ Ok (words_for (size p.tree)))
      × (out' ≡ words_of (words_for (size p.tree)) (marks p.tree) ++ drop (words_for (size p.tree)) out)
