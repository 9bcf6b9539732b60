-- There is no zeroth mark; else the tree is asked, and what it found is told. Assumes nothing.
use native.Mathlib.Omega.{arith}
use mathlib.Core.Path.{◌∙◌}
use Rattle.serve.proofs.Orderly.{select_done, select_first}
use Rattle.serve.proofs.serving.select_at.Goals as goal

pub returns-then-k-eq0 : goal.returns-then-k-eq0
returns-then-k-eq0 c = λ s. select_first _ _ _ c.if-k-eq0.true

pub returns : goal.returns
returns c = λ s. c.ok_or.ensures.value ∙ select_done _ _ _ _ (omega (arith, c.if-k-eq0.false)) (c.select.ensures s)
