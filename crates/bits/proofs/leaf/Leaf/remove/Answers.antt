-- The word that the place is in is edited, and one bit goes over from the high word to the low one. Assumes nothing.
use mathlib.Core.Bool.{◌&&◌}
use mathlib.Core.List.{[], ◌∷◌, ◌++◌}
use mathlib.Core.Path.{refl}
use borrow.Author.Rules.{rules}
use Rattle.model.specs.Marks.{remove}
use Rattle.model.specs.Word.{bits, odd}
use Rattle.bits.specs.Leaf.{bits_of, packed}
use Rattle.bits.proofs.TwoWords.{edit_chosen, remove_low, remove_high, remove_none}
use Rattle.bits.proofs.leaf.Leaf.remove.Goals as goal

pub returns-then-at-lt-BLOCK_BITS : goal.returns-then-at-lt-BLOCK_BITS
unfolding bits_of odd
returns-then-at-lt-BLOCK_BITS c =
    let a = c.args in
    edit_chosen a.self (λ first w k. packed (remove k (bits 64 w) ++ (first && odd a.self.high) ∷ []))
    (search rules) (λ t. search rules) (λ t. search rules)
    c.either-word.ensures c.word_remove-kept.ensures c.either.ensures c.either-then-at-lt-BLOCK_BITS.ensures
    (λ h. remove_low a.self a.at h refl c.word_remove-above.ensures)
    (λ h. remove_high a.self a.at (search rules) h refl)

pub returns : goal.returns
unfolding bits_of
returns c =
    let a = c.args in
    remove_none a.self a.at (search rules) (search rules) (search rules)
