-- The place is beyond the end, or the tree is asked. Assumes nothing.
use native.Mathlib.Omega.{arith}
use Rattle.serve.proofs.Orderly.{rank_done, rank_out}
use Rattle.serve.proofs.serving.rank_at.Goals as goal

pub returns-then-tree-place : goal.returns-then-tree-place
returns-then-tree-place c = λ s. rank_out _ s.tree _ (omega (arith, s.total, c.if-tree-place.true))

pub returns : goal.returns
returns c = λ s. rank_done _ s.tree _ _ (omega (arith, s.total, c.if-tree-place.false)) (c.rank.ensures s)
