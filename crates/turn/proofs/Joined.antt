-- The fork of one tree on a side and of another on the other side. What is said of it here is said once for both sides, and what is said elsewhere
-- by it has no sides.
use Prim.Native.Nat.{ℕ, suc, ◌+◌, ◌≤◌, max}
use native.Mathlib.Omega.{arith}
use mathlib.Core.Path.{◌≡◌, refl, ap}
use mathlib.Core.Bool.{Bool, true, false}
use mathlib.Core.List.{List, ◌∷◌, ◌++◌}
use Rattle.model.specs.Sound.{Balanced, Rearranged}
use Rattle.model.specs.Tree.{Tree, fork, leaf, top, size, height, numbers}
use Rattle.model.specs.Turn.{turn_left, turn_right}
use Rattle.model.proofs.Rearranged.{weigh, weigh_append}
use Rattle.pool.specs.Layout.{fork_of, Holds}
use Rattle.pool.specs.Node.{node_at}
use Rattle.pool.specs.declared.node.Fork.{Fork}
use Rattle.pool.specs.declared.node.Node.TheVariants as Node
use Rattle.turn.specs.Forks.{joined, over}
use Rattle.model.specs.Side.{side}
use Rattle.turn.specs.Sites.{Stores}
use Rattle.turn.specs.Words.{turn}

-- ---- the tree

-- a tree is a leaf or such a fork
pub by_sides : (left : Bool) (P : Tree → Type 0) → ((n : ℕ) (xs : List Bool) → P (leaf n xs)) → ((n : ℕ) (x y : Tree) → P (joined left n x y))
    → (t : Tree) → P t
by_sides left P p q (leaf n xs) = p n xs
by_sides true P p q (fork n l r) = q n l r
by_sides false P p q (fork n l r) = q n r l

pub joined_height : (left : Bool) (n : ℕ) (x y : Tree) → height (joined left n x y) ≡ suc (max (height x) (height y))
unfolding height
joined_height true n x y = refl
joined_height false n x y = omega arith

pub joined_size : (left : Bool) (n : ℕ) (x y : Tree) → size (joined left n x y) ≡ size x + size y
unfolding size
joined_size true n x y = refl
joined_size false n x y = omega arith

pub joined_numbers : (left : Bool) (n : ℕ) (x y : Tree) → Rearranged (numbers (joined left n x y)) (n ∷ (numbers x ++ numbers y))
unfolding numbers weigh
joined_numbers true n x y w = refl
joined_numbers false n x y w = simp weigh_append (omega arith)

-- the children stand by themselves, and no one is more than a level higher than the other
pub record Children (x y : Tree) : Type 0 where
  pub near : Balanced x
  pub far : Balanced y
  pub near_most : height x ≤ suc (height y)
  pub far_most : height y ≤ suc (height x)

pub joined_balanced : (left : Bool) (n : ℕ) (x y : Tree) → Balanced (joined left n x y) → Children x y
joined_balanced true n x y b = record { near = b.0; far = b.1; near_most = b.2; far_most = b.3 }
joined_balanced false n x y b = record { near = b.1; far = b.0; near_most = b.3; far_most = b.2 }

-- turned to the side, its child on the other side rises
pub turned_is : (left : Bool) (n b : ℕ) (a c e : Tree) → turn left (joined left n a (joined left b c e)) ≡ joined left n (joined left b a c) e
unfolding turn_left turn_right
turned_is true n b a c e = refl
turned_is false n b a c e = refl

-- ---- in words

pub joined_parts : (left : Bool) (w : List ℕ) (n : ℕ) (x y : Tree) → Holds w (joined left n x y) → Holds w x × Holds w y
joined_parts true w n x y h = (h.1, h.2)
joined_parts false w n x y h = (h.2, h.1)

pub joined_holds : (left : Bool) (w : List ℕ) (n : ℕ) (x y : Tree) → node_at w n ≡ Node.Fork (over left x y) → Holds w x → Holds w y
    → Holds w (joined left n x y)
joined_holds true w n x y e h k = (e, h, k)
joined_holds false w n x y e h k = (e, k, h)

-- ---- what the fork says

module _ (f : Fork) where
  pub far_at : (left : Bool) (x y : Tree) → f ≡ over left x y → side left f.right f.left ≡ top y
  unfolding fork_of
  far_at true x y e = ap (λ (g : Fork). g.right) e
  far_at false x y e = ap (λ (g : Fork). g.left) e

  -- the balance that is stored in it
  pub over_stores : (left : Bool) (x y : Tree) → f ≡ over left x y → height x ≤ height y + 2 → height y ≤ height x + 2
      → Stores left (height x) (height y) f.balance × (f.balance ≤ 4)
  unfolding fork_of
  over_stores true x y e h k = let b = ap (λ (g : Fork). g.balance) e in (omega arith, omega arith)
  over_stores false x y e h k = let b = ap (λ (g : Fork). g.balance) e in (omega arith, omega arith)

-- any number is stored of itself and of 2
pub stores_itself : (left : Bool) (s : ℕ) → Stores left (side left 2 s) (side left s 2) s
stores_itself true s = refl
stores_itself false s = refl
