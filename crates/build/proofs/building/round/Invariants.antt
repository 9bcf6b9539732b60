-- What the loop keeps.
use mathlib.Core.Path.{◌≡◌}
use mathlib.Core.List.{List}
use lib.ListN.{length}
use Rattle.model.specs.Tree.{Tree}
use Rattle.build.specs.Waiting.{Waiting}
use Rattle.build.proofs.Pairing.{Parted}
use Rattle.build.proofs.building.round.Given as goal

abbrev pub invariant-loop-i : goal.invariant-loop-i
invariant-loop-i l =
    (length l.nodes ≡ length l.initial.nodes)
    × ((ts : List Tree) → Waiting l.initial.nodes l.next l.row ts → Parted l.nodes l.next l.row l.i ts)
