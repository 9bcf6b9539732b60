-- A built tree is balanced: before each round all trees are equally high, but the leftmost may be one level higher, and so it is after it.
-- Only heights are spoken of here, never marks.
use Prim.Native.Nat.{ℕ, zero, suc}
use native.Mathlib.Omega.{arith}
use mathlib.Core.Path.{◌≡◌}
use mathlib.Core.Bool.{Bool}
use mathlib.Core.List.{List, [], ◌∷◌, reverse_aux}
use lib.ListN.{length, drop}
use Rattle.model.specs.Tree.{Tree, fork, height}
use Rattle.model.specs.Build.{leaf_built, leaf_count, built_leaves, round, build}
use Rattle.model.specs.Sound.{Balanced}
use Rattle.model.proofs.Balance.{Grown}
use Rattle.model.proofs.Rounds.{build_keeps}

-- balanced, and so many levels high
record Even (h : ℕ) (t : Tree) : Type 0 where
  balanced : Balanced t
  high : height t ≡ h

-- trees that are all balanced and so many levels high, but the last may be one level higher
abbrev Level : ℕ → List Tree → Type 0
Level h [] = Unit {0}
Level h (t ∷ []) = Grown h t
Level h (t ∷ u ∷ more) = Even h t × Level h (u ∷ more)

-- one more such tree in front
level_front : (h : ℕ) (t : Tree) (ts : List Tree) → Even h t → Level h ts → Level h (t ∷ ts)
level_front h t [] e p = search arith
level_front h t (u ∷ more) e p = (e, p)

-- a round over several trees makes trees one level higher
round_level : (n h : ℕ) (r l : Tree) (more : List Tree) → Level h (r ∷ l ∷ more) → Level (suc h) (round n (r ∷ l ∷ more))
unfolding round height
round_level n h r l [] p = search arith
round_level n h r l (odd ∷ []) p = search arith
round_level n h r l (s ∷ t ∷ more) p =
    level_front (suc h) (fork n l r) (round (suc n) (s ∷ t ∷ more)) (search arith) (round_level (suc n) h s t more p.1.1)

-- some height at which the trees are level: a round keeps it that there is one
round_levels : (n : ℕ) (ts : List Tree) → ((h : ℕ) × Level h ts) → (h : ℕ) × Level h (round n ts)
unfolding round
round_levels n [] p = p
round_levels n (t ∷ []) p = p
round_levels n (r ∷ l ∷ more) p = (suc p.0, round_level n p.0 r l more p.1)

-- leaves are level, and stay so when their order is reversed
leaves_level : (n k : ℕ) (xs : List Bool) (seen : List Tree) → Level zero seen → Level zero (reverse_aux (built_leaves n k xs) seen)
unfolding built_leaves height
leaves_level n zero xs seen p = p
leaves_level n (suc k) xs seen p = leaves_level (suc n) k (drop leaf_built xs) _ (level_front zero _ seen (search) p)

-- a built tree is balanced
pub build_balanced : (xs : List Bool) → Balanced (build xs)
build_balanced xs =
    (build_keeps (λ (_ : ℕ) (ts : List Tree). (h : ℕ) × Level h ts) round_levels xs
    (zero, leaves_level zero (leaf_count (length xs)) xs [] tt)).1.1.balanced
