-- A leaf of one mark is that mark and zeros. Assumes nothing.
use mathlib.Core.Path.{sym}
use Rattle.shrink.proofs.Joining.{lone_leaf}
use Rattle.shrink.proofs.mending.lone.Goals as goal

pub returns : goal.returns
returns c = sym (lone_leaf c.args.bit)
