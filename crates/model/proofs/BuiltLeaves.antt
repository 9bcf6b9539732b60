-- A built tree is whole: every leaf takes 64 marks, but the last takes what is left, at least one where there are any.
-- The rounds join neighbours, so the rightmost leaf stays the rightmost.
use Prim.Native.Nat.{ℕ, zero, suc, ◌*◌, ◌/◌, ◌≤◌, ◌<◌}
use native.Mathlib.Omega.{arith}
use mathlib.Core.Bool.{Bool}
use mathlib.Core.List.{List, [], ◌∷◌, reverse_aux}
use lib.ListN.{length, drop, length-take, length-drop}
use Rattle.model.specs.Tree.{Tree}
use Rattle.model.specs.Build.{leaf_built, leaf_count, built_leaves, round, foremost, rounds, build}
use Rattle.model.specs.Edit.{leaf_least}
use Rattle.model.specs.Sound.{Sized, Whole}
use Rattle.model.proofs.Leaves.{sized_whole}
use Rattle.model.proofs.Rounds.{build_keeps}

-- trees, the rightmost first, as full as a tree asks: only the first may have a rightmost leaf with so few marks
abbrev Row : ℕ → List Tree → Type 0
Row least [] = Unit {0}
Row least (t ∷ ts) = Sized least t × Row leaf_least ts

-- a round keeps a row
round_row : (least n : ℕ) (ts : List Tree) → Row least ts → Row least (round n ts)
unfolding round
round_row least n [] p = p
round_row least n (t ∷ []) p = p
round_row least n (r ∷ l ∷ []) p = search
round_row least n (r ∷ l ∷ odd ∷ []) p = search
round_row least n (r ∷ l ∷ s ∷ t ∷ more) p = ((p.1.0, p.0), round_row leaf_least (suc n) (s ∷ t ∷ more) p.1.1)

-- the leaves, the last of them first, are a row
leaves_row : (n k : ℕ) (xs : List Bool) (seen : List Tree) → k * leaf_built < length xs → length xs ≤ suc k * leaf_built
    → Row leaf_least seen → Row 1 (reverse_aux (built_leaves n (suc k) xs) seen)
unfolding built_leaves
leaves_row n zero xs seen some few p = (simp (length-take leaf_built xs) (omega arith), p)
leaves_row n (suc k) xs seen some few p =
    let d = length-drop leaf_built xs in
    leaves_row (suc n) k (drop leaf_built xs) _ (omega arith) (omega arith) (simp (length-take leaf_built xs) (omega arith), p)

-- a built tree is whole
pub build_whole : (xs : List Bool) → Whole (build xs)
unfolding build rounds leaf_count built_leaves round foremost
build_whole [] = omega arith
build_whole (x ∷ xs) =
    sized_whole (build (x ∷ xs)) (build_keeps (λ (_ : ℕ). Row 1) (round_row 1) (x ∷ xs)
    (leaves_row zero (length xs / leaf_built) (x ∷ xs) [] (omega arith) (omega arith) tt)).1.0
