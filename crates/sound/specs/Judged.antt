-- What it says that a sound pool stands in some node words.
use Rattle.std.specs.Prelude.{ℕ, ◌≡◌, Bool, true, List, length}
use Rattle.model.specs.Pool.{Pool}
use Rattle.model.specs.Sound.{Sound}
use Rattle.model.specs.Tree.{top, size}
use Rattle.pool.specs.Layout.{Laid, first_of}
use Rattle.pool.specs.Node.{nodes_in}
use Rattle.pool.specs.declared.chain.Chain.{Chain}

-- a sound pool stands in these words, as many nodes as there is room for, with this root, this many marks and this
-- chain
pub record Correct (w : List ℕ) (root total : ℕ) (chain : Chain) (p : Pool) : Type 0 where
  pub laid : Laid w (nodes_in w) p
  pub sound : Sound (nodes_in w) p
  pub rooted : top p.tree ≡ root
  pub counts : size p.tree ≡ total
  pub begins : first_of (nodes_in w) p.free ≡ chain.first
  pub amount : length p.free ≡ chain.count

-- true exactly where there is such a pool
pub record Judged (w : List ℕ) (root total : ℕ) (chain : Chain) (r : Bool) : Type 0 where
  pub yes : r ≡ true → (p : Pool) × Correct w root total chain p
  pub no : (p : Pool) → Correct w root total chain p → r ≡ true
