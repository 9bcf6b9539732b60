-- A tree and the free chain beside it in the same words, before an edit and after it.
use Rattle.std.specs.Prelude.{ℕ, suc, ◌+◌, ◌-◌, ◌≤◌, ◌<◌, ◌^◌, max, ◌≡◌, Bool, true, List, ◌++◌, ℤ}
use Rattle.model.specs.Side.{side}
use Rattle.model.specs.Marks.{count}
use Rattle.model.specs.Sound.{Balanced, Distinct, Whole}
use Rattle.model.specs.Tree.{Tree, top, marks, size, height, numbers}
use Rattle.model.specs.Turn.{rebalance}
use Rattle.pool.specs.Layout.{Holds, Chained, Rooted, Edited, first_of}
use Rattle.pool.specs.Node.{node_at}
use Rattle.pool.specs.declared.node.Fork.{Fork}
use Rattle.pool.specs.declared.node.Node.TheVariants.{Fork as fork}
use Rattle.turn.specs.Apart.{Apart}

-- A balanced tree at n, no deeper than so many levels, and the free chain from `head` to `end` beside it. No number
-- stands twice in them.
pub record Site (w : List ℕ) (n levels end head : ℕ) (t : Tree) (free : List ℕ) : Type 0 where
  pub rooted : Rooted w n levels t
  pub balanced : Balanced t
  pub whole : Whole t
  pub once : Distinct (numbers t ++ free)
  pub chained : Chained w end free
  pub first : first_of end free ≡ head
  pub few : suc (size t) < 2 ^ 32

-- What an edit of t has left: t' in its place and free' as the chain, which begins at `head` now. `by` is how much the
-- tree has grown in height. No node but those of t and of the free chain is another than it was.
pub record After (w w' : List ℕ) (end head : ℕ) (by : ℤ) (t t' : Tree) (free free' : List ℕ) : Type 0 where
  pub edited : Edited w w' (numbers t ++ free) t'
  pub chained : Chained w' end free'
  pub first : first_of end free' ≡ head
  pub change : Apart by (height t') (height t)

-- s is what a fork stores whose child on this side has the first height, and the other one the second: by how much the
-- right child is higher than the left one, and two more
abbrev pub Stores : Bool → ℕ → ℕ → ℕ → Type 0
Stores left x y s = s + side left x y ≡ side left y x + 2

-- what a fork over two trees says, with the balance of two heights
abbrev pub fork_at_heights : ℕ → ℕ → Tree → Tree → Fork
fork_at_heights hl hr l r =
    record {
      balance = (hr + 2) - hl;
      left = top l;
      right = top r;
      left_total = size l;
      left_ones = count true (marks l);
    }

-- The fork at n over l and r, of which one, by `left`, has come to its height from the height `was`. All that it says
-- is true but the balance, which is that of before.
pub record Stale (w : List ℕ) (n : ℕ) (left : Bool) (was : ℕ) (l r : Tree) : Type 0 where
  pub says : node_at w n ≡ fork (fork_at_heights (side left was (height l)) (side left (height r) was) l r)
  pub left_holds : Holds w l
  pub right_holds : Holds w r
  pub once : Distinct (numbers (Tree.fork n l r))
  pub few : size l + size r < 2 ^ 32
  pub left_balanced : Balanced l
  pub right_balanced : Balanced r
  -- before, the children differed by a level at most, and the one has changed by a level at most
  pub before_left : was ≤ suc (height (side left r l))
  pub before_right : height (side left r l) ≤ suc was
  pub rose : height (side left l r) ≤ suc was
  pub fell : was ≤ suc (height (side left l r))

-- the fork balanced again, and by how much it has grown since the child had the height `was`
pub record Leveled (w w' : List ℕ) (n : ℕ) (left : Bool) (was : ℕ) (l r : Tree) (grown : ℤ) : Type 0 where
  pub edited : Edited w w' (numbers (Tree.fork n l r)) (rebalance n l r)
  pub change : Apart grown (height (rebalance n l r)) (suc (max was (height (side left r l))))

-- a fork as it was but for the balance
abbrev pub with_balance : Fork → ℕ → Fork
with_balance f s =
    record {
      left = f.left;
      right = f.right;
      left_total = f.left_total;
      left_ones = f.left_ones;
      balance = s;
    }
