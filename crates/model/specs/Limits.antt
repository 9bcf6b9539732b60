-- What so many nodes have room for: leaves, levels, and the fewest marks at which an insert can find no room.
use Rattle.std.specs.Prelude.{ℕ, zero, suc, ◌+◌, ◌*◌, ◌/◌}
use Rattle.model.specs.Edit.{leaf_least}
use Rattle.model.specs.Sound.{leaf_most}

-- the most nodes that a pool has; a window's pool has so many
abbrev pub most_nodes : ℕ
most_nodes = 1023

-- the most leaves that a tree of n nodes or fewer has: every leaf but the first brings a fork with it
abbrev pub most_leaves : ℕ → ℕ
most_leaves n = (n + 1) / 2

-- the most levels of forks above a leaf in a sound pool of at most most_nodes nodes: a walk down takes no more steps
abbrev pub levels : ℕ
levels = 12

-- The fewest marks that a tree of so many leaves can hold while one of its leaves is full, so that a mark put there
-- has to split it. A lone leaf is itself the full one. Of several one is full, the rightmost holds a single mark and
-- each of the others leaf_least: in all 33 for each leaf, and 62.
unfoldable pub floor_for : ℕ → ℕ
floor_for zero = 0
floor_for (suc zero) = leaf_most
floor_for (suc (suc others)) = leaf_most + leaf_least * others + 1

-- The fewest marks at which a pool of n nodes can answer an insert Full: fewer than two nodes are free then, so its
-- tree has as many leaves as the nodes allow.
abbrev pub least_full : ℕ → ℕ
least_full n = floor_for (most_leaves n)
