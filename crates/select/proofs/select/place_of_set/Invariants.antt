-- What the loop keeps, and the measure that falls.
use Prim.Native.Nat.{◌-◌}
use Rattle.select.proofs.Search.{InBytes}
use Rattle.select.proofs.select.place_of_set.Given as goal

abbrev pub invariant-loop-left : goal.invariant-loop-left
invariant-loop-left l = InBytes l.value l.k (record { pos = l.pos; left = l.left })

abbrev pub decreases-loop-left : goal.decreases-loop-left
decreases-loop-left l = 64 - l.pos
