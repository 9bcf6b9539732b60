-- What it says that the floor of Full is sharp: a pool has no room for a mark while it holds no more than `least_full`,
-- and a build and edits lead to it.
use Rattle.std.specs.Prelude.{ℕ, ◌≤◌, ◌<◌, ◌≡◌, Bool, true, List, [], ◌∷◌, length}
use Rattle.std.specs.Prelude.{Some}
use Rattle.model.specs.Edit.{leaf_at}
use Rattle.model.specs.Limits.{least_full}
use Rattle.model.specs.Pool.{Pool, build, full, insert, remove, two_free}
use Rattle.model.specs.Sound.{Sound, leaf_most}
use Rattle.model.specs.Tree.{size}

-- a sound pool of n nodes that has no room for a mark at place i, though it holds no more marks than least_full says
pub record Sharp (n i : ℕ) (p : Pool) : Type 0 where
  pub sound : Sound n p
  pub within : i ≤ size p.tree
  pub leaf_full : length (leaf_at i p.tree) ≡ leaf_most
  pub few_free : length p.free < 2
  pub refused : full (two_free p) i p ≡ true
  pub held : size p.tree ≡ least_full n

-- an edit: a mark put in at a place, or the one at a place taken out
pub data Change : Type 0 where
  put : ℕ → Bool → Change
  out : ℕ → Change

-- the pool q is what p becomes by these edits, one after the other, each of them in range and none refused
abbrev pub Becomes : List Change → Pool → Pool → Type 0
Becomes [] p q = p ≡ q
Becomes (put i b ∷ more) p q =
    (i ≤ size p.tree) × (next : Pool) × (insert (two_free p) i b p ≡ Some next) × Becomes more next q
Becomes (out i ∷ more) p q = (i < size p.tree) × Becomes more (remove i p) q

-- a build in n nodes and edits after it, by which a pool comes to such a state
pub record Reached (n : ℕ) : Type 0 where
  pub given : List Bool
  pub built : Pool
  pub builds : build n given ≡ Some built
  pub changes : List Change
  pub pool : Pool
  pub becomes : Becomes changes built pool
  pub place : ℕ
  pub sharp : Sharp n place pool
