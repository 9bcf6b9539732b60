-- There is none for k = 0, nor where fewer bits are set; else the search finds it. Assumes nothing.
use native.Mathlib.Omega.{arith}
use mathlib.Core.Path.{sym}
use Rattle.model.specs.Word.{bits}
use Rattle.model.proofs.Counting.{place_none, place_zero}
use Rattle.select.proofs.select.kth_set.Goals as goal
use Rattle.select.proofs.select.kth_set.Goals.{then-k-eq0-via-then-k-eq0, then-k-eq0-via-else-k-eq0+then-count-k}

pub returns-then-k-eq0 : goal.returns-then-k-eq0
returns-then-k-eq0 c =
    let s = c.args in
    elim c.then-k-eq0.branch [
      | then-k-eq0-via-then-k-eq0 w ↦ rw (w.if-k-eq0.true, place_zero)
      | then-k-eq0-via-else-k-eq0+then-count-k w ↦ sym (place_none s.k (bits 64 s.value) (omega arith))
    ]
