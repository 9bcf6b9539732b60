-- What a turn makes of the two forks that it changes. The trees A, C and E stand in this order from the side to which
-- the turn goes: from left to right in a turn to the left, from right to left in one to the right.
use Rattle.std.specs.Prelude.{ℕ, suc, ◌+◌, ◌≤◌, ◌<◌, ◌^◌, max, Bool, ◌≡◌, ℤ}
use Rattle.model.specs.Tree.{Tree, fork, size, height}
use Rattle.pool.specs.Layout.{fork_of}
use Rattle.pool.specs.declared.node.Fork.{Fork}
use Rattle.turn.specs.Apart.{Apart}
use Rattle.model.specs.Side.{side}
use Rattle.turn.specs.declared.turning.Forks.{Forks}

-- the fork of one tree on this side and of another on the other side, and what it says
abbrev pub joined : Bool → ℕ → Tree → Tree → Tree
joined left n near far = fork n (side left near far) (side left far near)

abbrev pub over : Bool → Tree → Tree → Fork
over left near far = fork_of (side left near far) (side left far near)

-- The heights of the trees of a turn, the first two under the child that is to rise: it is one level higher than the
-- third tree or two, and its inner child, the second tree, is at most one level higher than the first and at most two
-- lower.
pub record Leans (e c a : ℕ) : Type 0 where
  pub inner : c ≤ suc e
  pub outer : e ≤ c + 2
  pub higher : a ≤ max e c
  pub most : max e c ≤ suc a

-- the balances of the child that is to rise and of the top, seen from A, and the heights that they come from
pub record Heights (child top : ℤ) : Type 0 where
  pub a : ℕ
  pub c : ℕ
  pub e : ℕ
  pub child_is : Apart child c e
  pub top_is : Apart top a (suc (max c e))
  pub leans : Leans e c a

-- a fork and its child that is to rise, as they are read
pub record Rising (left : Bool) (top child : Fork) : Type 0 where
  pub b : ℕ
  pub a : Tree
  pub c : Tree
  pub e : Tree
  pub top_is : top ≡ over left a (joined left b c e)
  pub child_is : child ≡ over left c e
  pub leans : Leans (height e) (height c) (height a)
  pub few : size a + size c < 2 ^ 64

-- the forks over the turned trees, and by how much the tree above them has grown, whatever its number
pub record Risen (left : Bool) (t : Forks) (b : ℕ) (a c e : Tree) : Type 0 where
  pub lowered_is : t.lowered ≡ over left a c
  pub risen_is : t.risen ≡ over left (joined left b a c) e
  pub change : (n : ℕ)
      → Apart t.change (height (joined left n (joined left b a c) e)) (height (joined left n a (joined left b c e)))
