-- The place is beyond the marks, or the tree is asked. Assumes nothing.
use native.Mathlib.Omega.{arith}
use Rattle.serve.proofs.Orderly.{access_done, access_out}
use Rattle.serve.proofs.serving.access_at.Goals as goal

pub returns-then-tree-index : goal.returns-then-tree-index
returns-then-tree-index c = λ s. access_out _ s.tree (omega (arith, s.total, c.if-tree-index.true))

pub returns : goal.returns
returns c = λ s. access_done _ s.tree _ (omega (arith, s.total, c.if-tree-index.false)) (c.access.ensures s)
