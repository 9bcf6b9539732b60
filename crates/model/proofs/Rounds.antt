-- The rounds by which a tree is built: as many of them as there are leaves leave one tree, and it has whatever each round keeps.
-- What the rounds keep (the marks, the balance, the numbers) is said elsewhere.
use Prim.Native.Nat.{ℕ, zero, suc, ◌+◌, ◌-◌, ◌*◌, ◌≤◌, max}
use native.Mathlib.Omega.{arith}
use mathlib.Core.Path.{◌≡◌, refl, ap}
use mathlib.Core.Bool.{Bool}
use mathlib.Core.List.{List, [], ◌∷◌, reverse}
use lib.ListN.{length, drop, length-reverse}
use Rattle.model.specs.Tree.{Tree}
use Rattle.model.specs.Build.{leaf_built, leaf_count, built_leaves, round, foremost, rounds, build}

-- a round leaves a tree where there was one
pub round_some : (n : ℕ) (ts : List Tree) → 1 ≤ length ts → 1 ≤ length (round n ts)
unfolding round
round_some n [] h = h
round_some n (t ∷ []) h = h
round_some n (r ∷ l ∷ []) h = omega arith
round_some n (r ∷ l ∷ odd ∷ []) h = omega arith
round_some n (r ∷ l ∷ s ∷ t ∷ more) h = omega arith

-- a round leaves fewer trees, if there were several
pub round_fewer : (n : ℕ) (ts : List Tree) → length (round n ts) ≤ max 1 (length ts - 1)
unfolding round
round_fewer n [] = omega arith
round_fewer n (t ∷ []) = omega arith
round_fewer n (r ∷ l ∷ []) = omega arith
round_fewer n (r ∷ l ∷ odd ∷ []) = omega arith
round_fewer n (r ∷ l ∷ s ∷ t ∷ more) = omega (arith, round_fewer (suc n) (s ∷ t ∷ more))

-- and never more
pub round_most : (n : ℕ) (ts : List Tree) → length (round n ts) ≤ length ts
unfolding round
round_most n [] = omega arith
round_most n (t ∷ ts) = omega (arith, round_fewer n (t ∷ ts))

-- where the forks' numbers have come to after a round: each fork made leaves one tree fewer and takes one number
unfoldable pub next_number : ℕ → List Tree → ℕ
next_number n ts = n + (length ts - length (round n ts))

-- enough rounds leave one tree, and of it holds whatever each round keeps
pub rounds_keep : (P : ℕ → List Tree → Type 0) → ((n : ℕ) (ts : List Tree) → P n ts → P (next_number n ts) (round n ts))
    → (k n : ℕ) (ts : List Tree) → 1 ≤ length ts → length ts ≤ suc k → P n ts → (m : ℕ) × P m (rounds k n ts ∷ [])
unfolding rounds foremost next_number
rounds_keep P keep zero n [] some few p = absurd (omega arith)
rounds_keep P keep zero n (t ∷ []) some few p = (n, p)
rounds_keep P keep zero n (t ∷ u ∷ more) some few p = absurd (omega arith)
rounds_keep P keep (suc k) n ts some few p =
    rounds_keep P keep k (next_number n ts) (round n ts) (round_some n ts some) (omega (arith, round_fewer n ts)) (keep n ts p)

-- so many leaves are made as are asked for
pub built_leaves_length : (n k : ℕ) (xs : List Bool) → length (built_leaves n k xs) ≡ k
unfolding built_leaves
built_leaves_length n zero xs = refl
built_leaves_length n (suc k) xs = ap suc (built_leaves_length (suc n) k (drop leaf_built xs))

-- marks take at least one leaf
pub leaf_count_some : (n : ℕ) → 1 ≤ leaf_count n
unfolding leaf_count
leaf_count_some zero = omega arith
leaf_count_some (suc n) = omega arith

-- the leaves that they take have room for them all
pub leaf_count_covers : (n : ℕ) → n ≤ leaf_count n * leaf_built
unfolding leaf_count
leaf_count_covers zero = omega arith
leaf_count_covers (suc n) = omega arith

-- of a built tree holds whatever holds of its leaves, the last of them first, and is kept by each round
pub build_keeps : (P : ℕ → List Tree → Type 0) → ((n : ℕ) (ts : List Tree) → P n ts → P (next_number n ts) (round n ts)) → (xs : List Bool)
    → P (leaf_count (length xs)) (reverse (built_leaves zero (leaf_count (length xs)) xs)) → (m : ℕ) × P m (build xs ∷ [])
unfolding build
build_keeps P keep xs p =
    let k : ℕ = leaf_count (length xs) in
    let some = leaf_count_some (length xs) in
    let e : length (reverse (built_leaves zero k xs)) ≡ k = simp (length-reverse, built_leaves_length) in
    rounds_keep P keep k k (reverse (built_leaves zero k xs)) (omega arith) (omega arith) p
