-- The word that the place is in is edited, and one bit goes over from the low word to the high one. Assumes nothing.
use mathlib.Core.Path.{refl}
use borrow.Author.Rules.{rules}
use Rattle.model.specs.Marks.{insert}
use Rattle.model.specs.Word.{bits, odd}
use Rattle.bits.specs.Leaf.{bits_of, packed}
use Rattle.bits.proofs.TwoWords.{edit_chosen, insert_low, insert_high, insert_none}
use Rattle.bits.proofs.leaf.Leaf.insert.Goals as goal

pub returns-then-at-lt-BLOCK_BITS : goal.returns-then-at-lt-BLOCK_BITS
unfolding bits_of odd
returns-then-at-lt-BLOCK_BITS c =
    let a = c.args in
    edit_chosen a.self (λ first w k. packed (insert k a.bit (bits 64 w))) (search rules) (λ t. search rules) (λ t. search rules)
    c.either-word.ensures c.word_insert-put.ensures c.either.ensures c.either-then-at-lt-BLOCK_BITS.ensures
    (λ h. insert_low a.self a.at a.bit h refl c.word_insert-above.ensures)
    (λ h. insert_high a.self a.at a.bit (search rules) h refl)

pub returns : goal.returns
unfolding bits_of
returns c =
    let a = c.args in
    insert_none a.self a.at a.bit (search rules) (search rules) (search rules)
