-- What the loop keeps, and the measure that falls.
use Prim.Native.Nat.{◌+◌, ◌*◌, ◌≤◌}
use mathlib.Core.Path.{◌≡◌}
use mathlib.Core.List.{List}
use lib.ListN.{length}
use Rattle.model.specs.Build as Build
use Rattle.model.specs.Tree.{Tree}
use Rattle.build.specs.Waiting.{Waiting}
use Rattle.build.proofs.Rounds.{InRounds}
use Rattle.build.proofs.building.rounds.Given as goal

abbrev pub invariant-loop-row : goal.invariant-loop-row
invariant-loop-row l =
    (1 ≤ l.row.count) × (l.next + l.row.count ≡ 2 * l.initial.row.count) × (length l.nodes ≡ length l.initial.nodes)
    × ((ts : List Tree) → Waiting l.initial.nodes l.initial.row.count l.initial.row ts
    → InRounds l.nodes l.row l.next (Build.rounds l.initial.row.count l.initial.row.count ts))

abbrev pub decreases-loop-row : goal.decreases-loop-row
decreases-loop-row l = l.row.count
