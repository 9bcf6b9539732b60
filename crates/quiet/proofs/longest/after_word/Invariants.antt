-- What the loop keeps, and the measure that falls.
use Prim.Native.Nat.{◌+◌, ◌^◌, ◌≤◌, ◌<◌}
use mathlib.Core.Path.{◌≡◌}
use Rattle.model.specs.Word.{bits}
use Rattle.quiet.specs.Watching.{passed, watched}
use Rattle.quiet.proofs.longest.after_word.Given as goal

abbrev pub invariant-loop-left : goal.invariant-loop-left
invariant-loop-left l =
    (l.left ≤ 64) × (passed l.now + l.left < 2 ^ 64) × (l.rest < 2 ^ 64)
    × (watched l.now (bits l.left l.rest) ≡ watched l.initial.now (bits l.length l.word))

abbrev pub decreases-loop-left : goal.decreases-loop-left
decreases-loop-left l = l.left
