-- Below 128 marks the leaf is put as it is; the split has its own law. Assumes nothing.
use native.Mathlib.Omega.{arith}
use Rattle.grow.proofs.Splitting.{settled, full_now, full_split}
use Rattle.grow.proofs.inserting.settle.Goals as goal

pub returns-then-size-lt-LEAF_SPLIT : goal.returns-then-size-lt-LEAF_SPLIT
returns-then-size-lt-LEAF_SPLIT c = λ b.
    let small = c.if-size-lt-LEAF_SPLIT.true in
    settled b (omega arith) c.set_node.ensures

pub returns : goal.returns
returns c = λ b.
    let full = c.if-size-lt-LEAF_SPLIT.false in
    full_split b full (c.split.ensures (full_now b full))
