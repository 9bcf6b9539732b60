-- The bit is the lowest of its word, shifted down. Assumes nothing.
use borrow.Author.Rules.{rules}
use Rattle.model.specs.Word.{odd}
use Rattle.tree.proofs.Questions.{bit_picked}
use Rattle.tree.proofs.query.mark_at.Goals as goal

pub returns : goal.returns
unfolding odd
returns c =
    bit_picked c.args.leaf c.args.at c.either-word.ensures (λ t. search rules) (λ t. search rules) c.requires
