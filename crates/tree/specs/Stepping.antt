-- One step down a tree, to a fork's left child or to its right one.
use Rattle.std.specs.Prelude.{ℕ, ◌-◌, true, false}
use Rattle.pool.specs.declared.node.Fork.{Fork}
use Rattle.tree.specs.declared.root.Root.{Root}
use Rattle.tree.specs.declared.steps.Step.{Step}

-- the children of a fork that holds so many marks
abbrev pub left_child : Fork → Root
left_child f = record { node = f.left; length = f.left_total }

abbrev pub right_child : Fork → ℕ → Root
right_child f total = record { node = f.right; length = total - f.left_total }

abbrev pub step_left : Fork → ℕ → Step
step_left f i = record { left = true; child = left_child f; index = i }

-- the marks of the left child are passed over
abbrev pub step_right : Fork → ℕ → ℕ → Step
step_right f total i = record { left = false; child = right_child f total; index = i - f.left_total }
