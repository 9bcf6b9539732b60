-- What the two forks that a turn changes hold, field by field, and a fork from its fields.
use Prim.Native.Nat.{ℕ, suc, ◌+◌, ◌-◌, ◌≤◌, max}
use native.Mathlib.Omega.{arith}
use mathlib.Core.Path.{◌≡◌, ap}
use mathlib.Core.Bool.{true}
use Rattle.model.specs.Marks.{count}
use Rattle.model.specs.Tree as Tree
use Rattle.model.specs.Tree.{Tree, fork, marks, size, height}
use Rattle.model.proofs.Content.{size_marks}
use Rattle.model.proofs.Counting.{count_append, count_both}
use Rattle.pool.specs.Layout.{fork_of}
use Rattle.pool.specs.declared.node.Fork.{Fork}

-- a tree has no more strikes than marks
pub ones_size : (t : Tree) → count true (marks t) ≤ size t
ones_size t = omega (arith, count_both (marks t), size_marks t)

-- a fork that holds what the fork over two trees does
pub fork_same : (f : Fork) (l r : Tree) → f.left ≡ Tree.top l → f.right ≡ Tree.top r → f.left_total ≡ size l
    → f.left_ones ≡ count true (marks l) → f.balance ≡ (height r + 2) - height l → f ≡ fork_of l r
unfolding fork_of
fork_same f l r a b c d e i = record { left = a i; right = b i; left_total = c i; left_ones = d i; balance = e i }

-- the fields of the fork over two trees
pub record Fields (f : Fork) (l r : Tree) : Type 0 where
  pub left_is : f.left ≡ Tree.top l
  pub right_is : f.right ≡ Tree.top r
  pub total : f.left_total ≡ size l
  pub ones : f.left_ones ≡ count true (marks l)
  pub balance_is : f.balance ≡ (height r + 2) - height l

pub fields : (f : Fork) (l r : Tree) → f ≡ fork_of l r → Fields f l r
unfolding fork_of
fields f l r e =
    record {
      left_is = ap (λ (g : Fork). g.left) e;
      right_is = ap (λ (g : Fork). g.right) e;
      total = ap (λ (g : Fork). g.left_total) e;
      ones = ap (λ (g : Fork). g.left_ones) e;
      balance_is = ap (λ (g : Fork). g.balance) e;
    }

-- ---- the fork over two trees, a child of a fork

module _ (b : ℕ) (l r : Tree) where
  pub fork_top : Tree.top (fork b l r) ≡ b
  unfolding Tree.top
  fork_top i = b

  pub fork_size : size (fork b l r) ≡ size l + size r
  unfolding size
  fork_size i = size l + size r

  pub fork_ones : count true (marks (fork b l r)) ≡ count true (marks l) + count true (marks r)
  unfolding marks
  fork_ones = count_append true (marks l) (marks r)

  pub fork_height : height (fork b l r) ≡ suc (max (height l) (height r))
  unfolding height
  fork_height i = suc (max (height l) (height r))
