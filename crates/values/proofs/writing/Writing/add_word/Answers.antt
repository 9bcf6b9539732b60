-- The marks come in above those that wait; a full word is written, and what comes over waits. Assumes nothing.
use native.Mathlib.Omega.{arith}
use Rattle.values.proofs.Output.{not_full, filled_up}
use Rattle.values.proofs.writing.Writing.add_word.Goals as goal

pub returns-then-filled-lt-WORD_BITS-clause-adds : goal.returns-then-filled-lt-WORD_BITS-clause-adds
returns-then-filled-lt-WORD_BITS-clause-adds c =
    λ ys e b o xs _ w. not_full o xs ys _ _ w _ _ e b c.if-filled-lt-WORD_BITS.true

pub returns-clause-adds : goal.returns-clause-adds
returns-clause-adds c =
    let full = c.if-filled-lt-WORD_BITS.false in
    λ ys e b o xs room w.
    rw c.put_word.ensures.put (filled_up o xs ys _ _ w _ _ e b (omega (arith, full)) c.requires.1 full)
