-- Every public contract determines its result, or the words that the call leaves: two that it allows for the same arguments are
-- equal.
use mathlib.Core.Path.{◌≡◌, sym, ◌∙◌}
use Rattle.model.specs.Contract.{Pinned}
use Rattle.model.proofs.Contracts.{one_value}
use Rattle.values.proofs.writing.values.Reads as values
use Rattle.values.proofs.writing.words_for.Reads as words_for

pub words_for_pinned : Pinned words_for.Post
words_for_pinned = one_value (λ κs a r w e. e)

pub values_pinned : (κs : _) (a : _) (r r' : _) (w w' : _) → values.Pre κs a → values.Post κs a r w → values.Post κs a r' w'
    → w.1.1.0.now ≡ w'.1.1.0.now
values_pinned κs a r r' w w' t p q = p t.0 ∙ sym (q t.0)
