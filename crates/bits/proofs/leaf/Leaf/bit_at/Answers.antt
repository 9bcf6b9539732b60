-- The bit is the lowest of its word, shifted down. Assumes nothing.
use borrow.Author.Rules.{rules}
use Rattle.bits.specs.Leaf.{bits_of}
use Rattle.model.specs.Word.{odd}
use Rattle.bits.proofs.TwoWords.{bit_low, bit_high, bit_none}
use Rattle.bits.proofs.leaf.Leaf.bit_at.Goals as goal

pub returns-then-at-lt-WORD_BITS : goal.returns-then-at-lt-WORD_BITS
unfolding bits_of odd
returns-then-at-lt-WORD_BITS c = bit_low c.args.self c.args.at (search rules)

pub returns-then-at-lt-BLOCK_BITS : goal.returns-then-at-lt-BLOCK_BITS
unfolding bits_of odd
returns-then-at-lt-BLOCK_BITS c = bit_high c.args.self c.args.at (search rules) (search rules)

pub returns : goal.returns
unfolding bits_of
returns c = bit_none c.args.self c.args.at (search rules)
