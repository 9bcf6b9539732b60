-- The tree is asked. Assumes nothing.
use Rattle.serve.proofs.Orderly.{quiet_done}
use Rattle.serve.proofs.serving.quiet_of.Goals as goal

pub returns : goal.returns
returns c = λ s. quiet_done _ _ (c.longest_quiet.ensures s)
