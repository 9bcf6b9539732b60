-- Turning a tree, and keeping it balanced. A turn changes how the marks are grouped, never the marks.
-- The top number stays the top, and the risen child's number takes the lowered node.
use Rattle.std.specs.Prelude.{ℕ, ◌+◌, Bool, true, false, eqb}
use Rattle.model.specs.Tree.{Tree, leaf, fork, height}

--      d            d
--     / \          / \
--    b   E   →    A   b
--   / \              / \
--  A   C            C   E
unfoldable pub turn_right : Tree → Tree
turn_right (leaf n xs) = leaf n xs
turn_right (fork d (leaf b xs) e) = fork d (leaf b xs) e
turn_right (fork d (fork b a c) e) = fork d a (fork b c e)

--    b              b
--   / \            / \
--  A   d     →    d   E
--     / \        / \
--    C   E      A   C
unfoldable pub turn_left : Tree → Tree
turn_left (leaf n xs) = leaf n xs
turn_left (fork b a (leaf d xs)) = fork b a (leaf d xs)
turn_left (fork b a (fork d c e)) = fork b (fork d a c) e

-- the first tree is higher than the second, by so many levels
unfoldable pub higher_by : ℕ → Tree → Tree → Bool
higher_by n t u = eqb (height t) (height u + n)

-- a left child that leans right is turned left before its parent is turned right, and mirrored
unfoldable pub leaning_left : Tree → Tree
leaning_left (leaf n xs) = leaf n xs
leaning_left (fork n l r) = elim (higher_by 1 r l) [ true ↦ turn_left (fork n l r) | false ↦ fork n l r ]

unfoldable pub leaning_right : Tree → Tree
leaning_right (leaf n xs) = leaf n xs
leaning_right (fork n l r) = elim (higher_by 1 l r) [ true ↦ turn_right (fork n l r) | false ↦ fork n l r ]

-- the fork of l and r, turned where one of them is two levels higher than the other
unfoldable pub rebalance : ℕ → Tree → Tree → Tree
rebalance n l r =
    elim (higher_by 2 l r) [
      | true ↦ turn_right (fork n (leaning_left l) r)
      | false ↦ elim (higher_by 2 r l) [
        | true ↦ turn_left (fork n l (leaning_right r))
        | false ↦ fork n l r
      ]
    ]
