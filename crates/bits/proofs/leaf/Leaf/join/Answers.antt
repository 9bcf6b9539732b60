-- The first bits stay; the other leaf comes in above them, over both words. Assumes nothing.
use mathlib.Core.Path.{refl}
use borrow.Author.Rules.{rules}
use Rattle.bits.specs.Leaf.{bits_of}
use Rattle.bits.proofs.TwoWords.{join_low, join_high, join_none}
use Rattle.bits.proofs.leaf.Leaf.join.Goals as goal

pub returns-then-len-lt-WORD_BITS : goal.returns-then-len-lt-WORD_BITS
unfolding bits_of
returns-then-len-lt-WORD_BITS c =
    let s = c.args in
    let taken = c.if-len-lt-WORD_BITS.true in
    join_low s.self s.len s.other taken refl c.word_join.ensures c.word_join-then-len-lt-WORD_BITS.ensures

pub returns-then-len-lt-BLOCK_BITS : goal.returns-then-len-lt-BLOCK_BITS
unfolding bits_of
returns-then-len-lt-BLOCK_BITS c =
    let s = c.args in
    join_high s.self s.len s.other (search rules) c.if-len-lt-WORD_BITS.false c.word_join-then-len-lt-BLOCK_BITS.ensures

pub returns : goal.returns
unfolding bits_of
returns c =
    let s = c.args in
    join_none s.self s.len s.other (search rules) (search rules) c.if-len-lt-BLOCK_BITS.false
