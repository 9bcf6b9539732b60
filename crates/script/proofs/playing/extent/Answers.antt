-- A pool has from 1 node to 1,023.
use native.Mathlib.Omega.{arith}
use Rattle.script.proofs.Effects.{bounds_sized, extent_some, extent_not, unsized}
use Rattle.script.proofs.playing.extent.Goals as goal

pub returns-in-1-to-1023 : goal.returns-in-1-to-1023
returns-in-1-to-1023 c = extent_some c.args.nodes (bounds_sized c.args.nodes (omega arith) (omega arith)) (omega arith)

pub returns-in_default : goal.returns-in_default
returns-in_default c = extent_not c.args.nodes (unsized _ (λ b. omega arith))

pub returns-in_default-2 : goal.returns-in_default-2
returns-in_default-2 c = extent_not c.args.nodes (unsized _ (λ b. omega arith))
