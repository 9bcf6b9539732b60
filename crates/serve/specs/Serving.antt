-- One order on a tree that stands among node words, with the free chain beside it: what may be assumed of them, and
-- what is left. Nodes that are neither the tree's nor free are nobody's concern here, and stay as they are.
use Rattle.std.specs.Prelude.{ℕ, ◌+◌, ◌≤◌, ◌<◌, ◌^◌, ◌≡◌, Bool, true, length}
use mathlib.Core.List.{List, ◌++◌, Memᴰ}
use Rattle.model.specs.Limits.{levels}
use Rattle.model.specs.Pool.{Pool}
use Rattle.model.specs.Tree.{top, size, numbers}
use Rattle.pool.specs.Layout.{Chained, Edited, first_of}
use Rattle.tree.specs.declared.root.Held.{Held}
use Rattle.turn.specs.Sites.{Site}
use Rattle.order.specs.Asked.{Asked}
use Rattle.serve.specs.Orders.{answer, after}
use Rattle.serve.specs.declared.serving.Served.{Served}

-- A tree with its free numbers that can be edited. The chain ends with `end`, which is no node's number; and where two
-- nodes may be taken, two are free.
pub record ToServe (w : List ℕ) (end : ℕ) (h : Held) (may : Bool) (p : Pool) : Type 0 where
  pub site : Site w h.tree.node levels end h.chain.first p.tree p.free
  pub total : size p.tree ≡ h.tree.length
  pub count : length p.free ≡ h.chain.count
  pub past : Memᴰ end (numbers p.tree ++ p.free) → ⊥
  pub fits : h.chain.count + 2 < 2 ^ 64
  pub two : may ≡ true → 2 ≤ length p.free

-- It was so answered, and stands in w' as it is afterwards, its root where it was; what is handed back says so of it.
pub record Serves (w w' : List ℕ) (end : ℕ) (may : Bool) (o : Asked) (p : Pool) (r : Served) : Type 0 where
  pub answered : r.answer ≡ answer may o p
  pub edited : Edited w w' (numbers p.tree ++ p.free) (after may o p).tree
  pub chained : Chained w' end (after may o p).free
  pub first : first_of end (after may o p).free ≡ r.held.chain.first
  pub count : length (after may o p).free ≡ r.held.chain.count
  pub root : top p.tree ≡ r.held.tree.node
  pub total : size (after may o p).tree ≡ r.held.tree.length
