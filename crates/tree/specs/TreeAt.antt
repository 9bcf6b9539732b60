-- A tree of so many marks in the node words of a pool, told by its root.
use Rattle.std.specs.Prelude.{ℕ, ◌≡◌, List}
use Rattle.model.specs.Tree.{Tree, size}
use Rattle.pool.specs.Layout.{Rooted}
use Rattle.tree.specs.declared.root.Root.{Root}

-- it stands at the root's number of the words, with no leaf more than so many levels down
pub record TreeAt (w : List ℕ) (root : Root) (levels : ℕ) : Type 0 where
  pub tree : Tree
  pub rooted : Rooted w root.node levels tree
  pub total : size tree ≡ root.length

abbrev pub tree_at : {w : List ℕ} {root : Root} {levels : ℕ} (t : Tree) → Rooted w root.node levels t
    → size t ≡ root.length → TreeAt w root levels
tree_at t h e = record { tree = t; rooted = h; total = e }
