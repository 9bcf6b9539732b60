-- When a pool is sound: its tree balanced, its leaves neither too full nor too empty, and each number used once.
use Rattle.std.specs.Prelude.{ℕ, zero, suc, ◌+◌, ◌≤◌, ◌≡◌, length}
use mathlib.Core.List.{List, [], ◌∷◌, ◌++◌, Memᴰ}
use Rattle.model.specs.Edit.{leaf_least}
use Rattle.model.specs.Pool.{Pool, numbers_from}
use Rattle.model.specs.Tree.{Tree, leaf, fork, height, numbers}

-- no leaf holds more than this many marks
abbrev pub leaf_most : ℕ
leaf_most = 127

-- the two children of a fork differ in height by at most one, at every fork
abbrev pub Balanced : Tree → Type 0
Balanced (leaf n xs) = Unit {0}
Balanced (fork n l r) = Balanced l × Balanced r × (height l ≤ suc (height r)) × (height r ≤ suc (height l))

-- every leaf holds at most leaf_most marks, and at least leaf_least; but the rightmost need hold only so many as the
-- first argument says
abbrev pub Sized : ℕ → Tree → Type 0
Sized least (leaf n xs) = (least ≤ length xs) × (length xs ≤ leaf_most)
Sized least (fork n l r) = Sized leaf_least l × Sized least r

-- the leaves of a whole tree: a lone leaf may be empty, and the rightmost of several holds one mark or more
abbrev pub Whole : Tree → Type 0
Whole (leaf n xs) = Sized zero (leaf n xs)
Whole (fork n l r) = Sized 1 (fork n l r)

-- no number stands twice in a list
abbrev pub Distinct : List ℕ → Type 0
Distinct [] = Unit {0}
Distinct (k ∷ ks) = (Memᴰ k ks → ⊥) × Distinct ks

-- the sum of the weights of the numbers in a list
unfoldable pub weigh : (ℕ → ℕ) → List ℕ → ℕ
weigh w [] = zero
weigh w (n ∷ ns) = w n + weigh w ns

-- the same numbers, each equally often, in any order: whatever the numbers weigh, both lists weigh the same
abbrev pub Rearranged : List ℕ → List ℕ → Type 0
Rearranged ms ns = (w : ℕ → ℕ) → weigh w ms ≡ weigh w ns

-- all numbers of a pool: those of its tree, and the free ones
unfoldable pub all_numbers : Pool → List ℕ
all_numbers p = numbers p.tree ++ p.free

-- a sound pool of n nodes: each of the numbers 0 to n - 1 stands once in the tree or once in the free chain
pub record Sound (n : ℕ) (p : Pool) : Type 0 where
  pub balanced : Balanced p.tree
  pub whole : Whole p.tree
  pub each : Rearranged (numbers_from 0 n) (all_numbers p)
