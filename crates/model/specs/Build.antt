-- Building a tree from marks: leaves of 64, joined in rounds, in pairs from the right end.
use Rattle.std.specs.Prelude.{ℕ, zero, suc, ◌+◌, ◌-◌, ◌/◌, Bool, List, [], ◌∷◌, reverse, length, take, drop}
use Rattle.model.specs.Tree.{Tree, leaf, fork}

-- how many marks a built leaf takes, the last one perhaps fewer
abbrev pub leaf_built : ℕ
leaf_built = 64

-- how many leaves so many marks take; no marks take one
unfoldable pub leaf_count : ℕ → ℕ
leaf_count zero = 1
leaf_count (suc n) = suc (n / leaf_built)

-- the leaves, leftmost first: k of them, the first with number n, the next with n + 1
unfoldable pub built_leaves : ℕ → ℕ → List Bool → List Tree
built_leaves n zero xs = []
built_leaves n (suc k) xs = leaf n (take leaf_built xs) ∷ built_leaves (suc n) k (drop leaf_built xs)

-- One round, on a list of trees with the rightmost first: pairs from the right end are joined, and an odd first tree
-- joins, as left child, the pair just made beside it. The forks take the numbers from n on, as they are made.
unfoldable pub round : ℕ → List Tree → List Tree
round n [] = []
round n (t ∷ []) = t ∷ []
round n (r ∷ l ∷ []) = fork n l r ∷ []
round n (r ∷ l ∷ odd ∷ []) = fork (suc n) odd (fork n l r) ∷ []
round n (r ∷ l ∷ s ∷ t ∷ more) = fork n l r ∷ round (suc n) (s ∷ t ∷ more)

-- the first of some trees
unfoldable pub foremost : List Tree → Tree
foremost [] = leaf zero []
foremost (t ∷ more) = t

-- so many rounds, and the tree that is then left. Each fork that a round makes leaves one tree fewer, and takes one
-- number; a lone tree stays.
unfoldable pub rounds : ℕ → ℕ → List Tree → Tree
rounds zero n ts = foremost ts
rounds (suc more) n ts =
    let joined : List Tree = round n ts in
    rounds more (n + (length ts - length joined)) joined

-- the tree built from these marks: leaves from number 0, then the forks. As many rounds as there are leaves are more
-- than enough.
unfoldable pub build : List Bool → Tree
build xs =
    let k : ℕ = leaf_count (length xs) in
    rounds k k (reverse (built_leaves zero k xs))
