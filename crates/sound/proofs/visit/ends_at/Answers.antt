-- A leaf that is not changed by a cut has nothing past it. Assumes nothing.
use Rattle.sound.proofs.Padding.{cut_says}
use Rattle.sound.proofs.visit.ends_at.Goals as goal

pub returns : goal.returns
returns c = cut_says c.args.leaf c.args.total c.join.ensures c.eq.ensures
