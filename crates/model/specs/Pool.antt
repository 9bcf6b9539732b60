-- A pool of numbered nodes: the tree, and the chain of free numbers beside it. Inserting asks for room first, and is
-- refused whole where there is none; what a remove frees goes first into the chain.
use Rattle.std.specs.Prelude.{ℕ, zero, suc, ◌-◌, ◌*◌, Bool, true, false, ◌&&◌, not, List, [], ◌∷◌, ◌++◌, leb, length, drop}
use Rattle.std.specs.Prelude.{Option, None, Some}
use Rattle.model.specs.Tree.{Tree}
use Rattle.model.specs.Build as Build
use Rattle.model.specs.Edit as Edit

pub record Pool : Type 0 where
  pub tree : Tree
  pub free : List ℕ

-- the numbers from n on, k of them
unfoldable pub numbers_from : ℕ → ℕ → List ℕ
numbers_from n zero = []
numbers_from n (suc k) = n ∷ numbers_from (suc n) k

-- how many nodes a tree of so many leaves has
unfoldable pub nodes_for : ℕ → ℕ
nodes_for leaves = 2 * leaves - 1

-- a pool of so many nodes, built from marks: none where the tree needs more nodes
unfoldable pub build : ℕ → List Bool → Option Pool
build n xs =
    let need : ℕ = nodes_for (Build.leaf_count (length xs)) in
    elim (leb need n) [
      | true ↦ Some (record { tree = Build.build xs; free = numbers_from need (n - need) })
      | false ↦ None
    ]

-- the window's rule of room: two nodes may be taken where two are free
unfoldable pub two_free : Pool → Bool
two_free p = leb 2 (length p.free)

-- an insert at place i has no room: its leaf would split, and two nodes may not be taken
unfoldable pub full : Bool → ℕ → Pool → Bool
full may i p = Edit.splits i p.tree && not may

-- the pool with b put in at place i, none where there is no room for it; whether two nodes may be taken is the caller's
-- rule
unfoldable pub insert : Bool → ℕ → Bool → Pool → Option Pool
insert may i b p =
    elim (full may i p) [
      | true ↦ None
      | false ↦ Some (record {
        tree = Edit.insert i b p.free p.tree;
        free = elim (Edit.splits i p.tree) [ true ↦ drop 2 p.free | false ↦ p.free ];
      })
    ]

-- the pool without the mark at place i
unfoldable pub remove : ℕ → Pool → Pool
remove i p =
    let t : Edit.Trimmed = Edit.remove i p.tree in
    record { tree = t.tree; free = t.freed ++ p.free }
