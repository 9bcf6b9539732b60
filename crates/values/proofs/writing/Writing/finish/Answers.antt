-- Nothing waits, or one word does, or a zero word is due after it. Assumes nothing.
use native.Mathlib.Omega.{arith}
use Rattle.values.proofs.Output.{finished_full, finished_one, finished_two}
use Rattle.values.proofs.writing.Writing.finish.Goals as goal

pub returns-then-words-tail-clause-written : goal.returns-then-words-tail-clause-written
returns-then-words-tail-clause-written c = λ o xs e m w. finished_full o xs _ _ _ w e c.if-words-tail.true

pub returns-then-words-tail-2-clause-written : goal.returns-then-words-tail-2-clause-written
returns-then-words-tail-2-clause-written c = λ o xs e m w.
    let waits = c.if-words-tail.false in
    rw c.put_word.ensures.put (finished_one o xs _ _ _ w e m (omega (arith, waits)) c.if-words-tail-2.true)

pub returns-clause-written : goal.returns-clause-written
returns-clause-written c = λ o xs e m w.
    let waits = c.if-words-tail.false in
    rw (c.put_word-2.ensures.put, c.put_word.ensures.put)
    (finished_two o xs _ _ _ w e m (omega (arith, waits)) (omega (arith, c.if-words-tail-2.false)))
