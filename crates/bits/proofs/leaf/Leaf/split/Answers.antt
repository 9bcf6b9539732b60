-- Each word is a leaf of its own. Assumes nothing.
use borrow.Author.Rules.{rules}
use Rattle.bits.specs.Leaf.{bits_of}
use Rattle.bits.proofs.TwoWords.{split_both}
use Rattle.bits.proofs.leaf.Leaf.split.Goals as goal

pub returns : goal.returns
unfolding bits_of
returns c = split_both c.args.self (search rules) (search rules)
