-- The tree that holds a window: its leaves hold the marks, and every node has a number, its place in the pool.
-- Nothing that can be computed is stored: size, height and marks are functions of the tree.
use Rattle.std.specs.Prelude.{ℕ, zero, suc, ◌+◌, max, Bool, List, [], ◌∷◌, ◌++◌, length}

pub data Tree : Type 0 where
  leaf : ℕ → List Bool → Tree
  fork : ℕ → Tree → Tree → Tree

-- the number of the topmost node
unfoldable pub top : Tree → ℕ
top (leaf n xs) = n
top (fork n l r) = n

-- the marks of a tree, the leftmost first
unfoldable pub marks : Tree → List Bool
marks (leaf n xs) = xs
marks (fork n l r) = marks l ++ marks r

-- how many marks it holds
unfoldable pub size : Tree → ℕ
size (leaf n xs) = length xs
size (fork n l r) = size l + size r

-- how many levels of forks stand above its lowest leaf
unfoldable pub height : Tree → ℕ
height (leaf n xs) = zero
height (fork n l r) = suc (max (height l) (height r))

-- the numbers of its nodes
unfoldable pub numbers : Tree → List ℕ
numbers (leaf n xs) = n ∷ []
numbers (fork n l r) = n ∷ numbers l ++ numbers r

-- its leaves' marks, the leftmost leaf first
unfoldable pub leaves : Tree → List (List Bool)
leaves (leaf n xs) = xs ∷ []
leaves (fork n l r) = leaves l ++ leaves r

-- the marks of its leftmost and of its rightmost leaf
unfoldable pub first_leaf : Tree → List Bool
first_leaf (leaf n xs) = xs
first_leaf (fork n l r) = first_leaf l

unfoldable pub last_leaf : Tree → List Bool
last_leaf (leaf n xs) = xs
last_leaf (fork n l r) = last_leaf r

-- the same tree with another number at its top
unfoldable pub renumber : ℕ → Tree → Tree
renumber k (leaf n xs) = leaf k xs
renumber k (fork n l r) = fork k l r

-- how many leaves it has
unfoldable pub leaf_total : Tree → ℕ
leaf_total (leaf n xs) = 1
leaf_total (fork n l r) = leaf_total l + leaf_total r

-- the fewest leaves that a balanced tree of a height has
unfoldable pub fewest_leaves : ℕ → ℕ
fewest_leaves zero = 1
fewest_leaves (suc zero) = 2
fewest_leaves (suc (suc h)) = fewest_leaves (suc h) + fewest_leaves h
