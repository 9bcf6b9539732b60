-- A tree that stands in a pool's words before it is edited, with the free chain beside it; and a fork with one mark
-- more in its left child.
use Rattle.std.specs.Prelude.{ℕ, ◌+◌, ◌≡◌, Bool, List}
use Rattle.model.specs.Tree.{Tree, size}
use Rattle.model.specs.Word.{digit}
use Rattle.pool.specs.declared.node.Fork.{Fork}
use Rattle.turn.specs.Sites.{Site}

-- a tree of so many marks stands at n, and the chain begins at `head`
pub record SiteAt (w : List ℕ) (n levels head total : ℕ) : Type 0 where
  pub end : ℕ
  pub tree : Tree
  pub free : List ℕ
  pub site : Site w n levels end head tree free
  pub total_is : size tree ≡ total

abbrev pub one_more : Fork → Bool → Fork
one_more f bit =
    record {
      left = f.left;
      right = f.right;
      left_total = f.left_total + 1;
      left_ones = f.left_ones + digit bit;
      balance = f.balance;
    }
