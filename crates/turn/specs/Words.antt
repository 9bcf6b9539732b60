-- Trees that are turned where they stand.
use Rattle.std.specs.Prelude.{ℕ, ◌+◌, ◌≤◌, ◌<◌, ◌^◌, Bool, ◌≡◌, List, ◌⊎◌, ℤ, pos, negsuc}
use Rattle.model.specs.Sound.{Balanced, Distinct}
use Rattle.model.specs.Tree.{Tree, fork, top, size, height, numbers}
use Rattle.model.specs.Turn.{leaning_left, leaning_right, rebalance, turn_left, turn_right}
use Rattle.pool.specs.Layout.{Holds, Edited}
use Rattle.turn.specs.Apart.{Apart}
use Rattle.turn.specs.Forks.{Leans, joined}
use Rattle.model.specs.Side.{side}

-- the words hold a tree whose nodes have a number each
pub record Standing (w : List ℕ) (t : Tree) : Type 0 where
  pub holds : Holds w t
  pub distinct : Distinct (numbers t)
  pub few : size t < 2 ^ 32

-- a tree at n that can be turned to this side: its child on the other side is to rise
pub record Turns (left : Bool) (w : List ℕ) (n : ℕ) : Type 0 where
  pub b : ℕ
  pub a : Tree
  pub c : Tree
  pub e : Tree
  pub stands : Standing w (joined left n a (joined left b c e))
  pub leans : Leans (height e) (height c) (height a)

-- the tree before the turn
abbrev pub unturned : (left : Bool) {w : List ℕ} (n : ℕ) → Turns left w n → Tree
unturned left n t = joined left n t.a (joined left t.b t.c t.e)

-- a tree turned to this side, and a child on this side that is turned to it where it leans to the other
abbrev pub turn : Bool → Tree → Tree
turn left t = side left (turn_left t) (turn_right t)

abbrev pub leaning : Bool → Tree → Tree
leaning left t = side left (leaning_left t) (leaning_right t)

-- a balanced tree at n
pub record Child (w : List ℕ) (n : ℕ) (t : Tree) : Type 0 where
  pub at : top t ≡ n
  pub stands : Standing w t
  pub balanced : Balanced t

-- balanced trees under n, of which one may be two levels higher than the other
pub record Uneven (w : List ℕ) (n : ℕ) (l r : Tree) : Type 0 where
  pub stands : Standing w (fork n l r)
  pub left : Balanced l
  pub right : Balanced r
  pub left_most : height l ≤ height r + 2
  pub right_most : height r ≤ height l + 2

-- one tree has been put in another's place, of the same nodes, and grown is by how much it is higher
pub record Moved (w w' : List ℕ) (grown : ℤ) (before after : Tree) : Type 0 where
  pub edited : Edited w w' (numbers before) after
  pub change : Apart grown (height after) (height before)

-- what balancing the fork of l and r leaves, and that it has kept its height or lost one level
pub record Evened (w w' : List ℕ) (grown : ℤ) (n : ℕ) (l r : Tree) : Type 0 where
  pub edited : Edited w w' (numbers (fork n l r)) (rebalance n l r)
  pub change : Apart grown (height (rebalance n l r)) (height (fork n l r))
  pub small : (grown ≡ pos 0) ⊎ (grown ≡ negsuc 0)
