-- What the loop keeps.
use mathlib.Core.Path.{◌≡◌}
use lib.ListN.{length as count_of, take}
use Rattle.model.specs.Word.{marks_of}
use Rattle.build.proofs.PutLeaves.{Begun}
use Rattle.build.proofs.building.put_leaves.Given as goal

abbrev pub invariant-loop-i : goal.invariant-loop-i
invariant-loop-i l =
    (count_of l.nodes ≡ count_of l.initial.nodes) × Begun l.nodes (take l.length (marks_of l.words)) l.leaves l.i
