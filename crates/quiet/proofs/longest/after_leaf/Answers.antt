-- The marks of the low word go by, and then those of the high one. Assumes nothing.
use Prim.Native.Nat.{◌-◌}
use native.Mathlib.Omega.{arith}
use mathlib.Core.Path.{sym, ap, ◌∙◌}
use Rattle.model.specs.Word.{bits}
use Rattle.model.proofs.Words.{bits_length}
use Rattle.quiet.specs.Watching.{watched}
use Rattle.quiet.specs.declared.longest.Watch.{Watch}
use Rattle.quiet.proofs.Passed.{leaf_low, leaf_both, watched_append, watched_since}
use Rattle.quiet.proofs.longest.after_leaf.Goals as goal

pub returns-then-length-lt-WORD_BITS : goal.returns-then-length-lt-WORD_BITS
returns-then-length-lt-WORD_BITS c =
    let a = c.args in
    c.after_word.ensures ∙ ap (watched a.watch) (leaf_low a.leaf a.length (omega arith))

pub after_word-requires-2 : goal.after_word-requires-2
after_word-requires-2 c =
    let a = c.args in
    let e = c.after_word-first.ensures in
    (omega arith, rw e (omega (arith, watched_since a.watch (bits 64 a.leaf.low), bits_length 64 a.leaf.low)))

pub returns : goal.returns
returns c =
    let a = c.args in
    c.after_word-2.ensures
    ∙ ap (λ (w : Watch). watched w (bits (a.length - 64) a.leaf.high)) c.after_word-first.ensures
    ∙ sym (watched_append a.watch (bits 64 a.leaf.low) (bits (a.length - 64) a.leaf.high))
    ∙ ap (watched a.watch) (leaf_both a.leaf a.length (omega arith) (omega arith))
