-- What asking a tree answers.
use Rattle.std.specs.Prelude.{ℕ, ◌+◌, ◌-◌, ◌^◌, ◌≤◌, ◌<◌, ◌≡◌, Bool, true, false, ltb, length}
use Rattle.std.specs.Prelude.{Option, None, Some}
use Rattle.model.specs.Edit.{leaf_at}
use Rattle.model.specs.Marks.{access, rank}
use Rattle.model.specs.Tree.{Tree, marks}
use Rattle.bits.specs.Leaf.{leaf_of}
use Rattle.tree.specs.declared.query.Spot.{Spot}

-- a place in a leaf, with the marks before the leaf counted in; past the marks there is none
abbrev pub found_at : ℕ → ℕ → Option ℕ → Option ℕ
found_at before total (Some p) = elim (ltb (before + p) total) [ true ↦ Some (before + p) | false ↦ None ]
found_at before total None = None

-- how many of so many marks are of a kind, where so many are strikes
abbrev pub of_kind : Bool → ℕ → ℕ → ℕ
of_kind true total ones = ones
of_kind false total ones = total - ones

-- a place that can be counted from the window's beginning in a word
abbrev pub Near : ℕ → Option ℕ → Type 0
Near before (Some p) = before + p < 2 ^ 64
Near before None = Unit {0}

-- where a place of a tree lies: in a leaf with the marks xs, which the place leads to
pub record Spotted (t : Tree) (place : ℕ) (s : Spot) : Type 0 where
  pub leaf : s.leaf ≡ leaf_of (leaf_at place t)
  pub total : s.length ≡ length (leaf_at place t)
  pub small : length (leaf_at place t) ≤ 127
  pub within : s.at ≤ length (leaf_at place t)
  pub mark : access s.at (leaf_at place t) ≡ access place (marks t)
  pub strikes : s.ones + rank true s.at (leaf_at place t) ≡ rank true place (marks t)
