-- The low word's marks are added, and then the high word's. Assumes nothing.
use native.Mathlib.Omega.{arith}
use mathlib.Core.Path.{◌∙◌}
use lib.ListN.{take, drop, length-drop, take-append-drop}
use lib.Seq.{length-take-le}
use Rattle.values.proofs.Output.{adds_both, low_few, low_first, high_rest}
use Rattle.values.proofs.writing.Writing.add_leaf.Goals as goal

pub returns-then-length-lt-WORD_BITS-clause-adds : goal.returns-then-length-lt-WORD_BITS-clause-adds
returns-then-length-lt-WORD_BITS-clause-adds c =
    λ ys e l. c.add_word.ensures.adds ys e (low_few ys _ l (omega (arith, e, c.if-length-lt-WORD_BITS.true)))

pub returns-clause-adds : goal.returns-clause-adds
returns-clause-adds c =
    let many = c.if-length-lt-WORD_BITS.false in
    let first = c.add_word-2.ensures in
    let second = c.add_word-3.ensures in
    λ ys e l. let size = length-take-le 64 ys (omega (arith, e, many)) in
    rw (take-append-drop 64 ys) at (adds_both first.moved size (first.adds (take 64 ys) size (low_first ys _ l))
    (second.adds (drop 64 ys) (length-drop 64 ys ∙ omega (arith, e)) (high_rest ys _ l (omega (arith, e, c.requires.1)))))
