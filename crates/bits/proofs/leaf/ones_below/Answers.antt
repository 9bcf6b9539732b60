-- A word cut to n bits has the set ones of its n lowest. Assumes nothing.
use mathlib.Core.Path.{◌∙◌}
use borrow.Author.Rules.{rules}
use Rattle.bits.proofs.Packed.{ones_cut, ones_all}
use Rattle.bits.proofs.leaf.ones_below.Goals as goal

pub returns-then-n-lt-WORD_BITS : goal.returns-then-n-lt-WORD_BITS
returns-then-n-lt-WORD_BITS c =
    let s = c.args in
    c.ones.ensures ∙ rw c.word_below.ensures (ones_cut s.n s.word (search rules))

pub returns : goal.returns
returns c = let s = c.args in c.ones-2.ensures ∙ ones_all s.n s.word c.if-n-lt-WORD_BITS.false
