-- What a round does to the trees that wait, apart from any words: it halves them, and a lone tree stays. And how many leaves some marks fill.
use Prim.Native.Nat.{ℕ, zero, suc, ◌*◌, ◌/◌, ◌≤◌, ◌<◌}
use native.Mathlib.Omega.{arith}
use mathlib.Core.Path.{◌≡◌, refl}
use mathlib.Core.List.{List, [], ◌∷◌}
use lib.ListN.{length}
use Rattle.model.specs.Tree.{Tree}
use Rattle.model.specs.Build.{leaf_count, foremost, round, rounds}

-- ---- one round

pub round_halves : (n : ℕ) (ts : List Tree) → 2 ≤ length ts → length (round n ts) ≡ length ts / 2
unfolding round
round_halves n [] h = absurd (omega arith)
round_halves n (t ∷ []) h = absurd (omega arith)
round_halves n (r ∷ l ∷ []) h = omega arith
round_halves n (r ∷ l ∷ odd ∷ []) h = omega arith
round_halves n (r ∷ l ∷ s ∷ t ∷ more) h = omega (arith, round_halves (suc n) (s ∷ t ∷ more) (omega arith))

-- ---- rounds

pub rounds_lone : (k n : ℕ) (t : Tree) → rounds k n (t ∷ []) ≡ t
unfolding rounds round foremost
rounds_lone zero n t = refl
rounds_lone (suc k) n t = rounds_lone k _ t

-- ---- the leaves

-- a leaf that is built has its first mark within the marks
pub leaf_begins : (i n : ℕ) → i < leaf_count n → i * 64 ≤ n
unfolding leaf_count
leaf_begins i zero h = omega arith
leaf_begins i (suc n) h = omega arith

-- and all its 64 marks, unless it is the last
pub leaf_full : (i n : ℕ) → suc i < leaf_count n → suc i * 64 ≤ n
unfolding leaf_count
leaf_full i zero h = omega arith
leaf_full i (suc n) h = omega arith
