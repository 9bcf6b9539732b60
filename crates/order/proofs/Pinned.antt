-- The contract of each conversion determines its result: two that it allows for the same value are equal. Each law
-- speaks of the contract as the check reads it off the source.
use mathlib.Core.Path.{◌≡◌, sym, ap, ◌∙◌}
use mathlib.Core.List.{List}
use Prim.Native.Nat.{ℕ}
use Rattle.std.specs.Prelude.{Result, Ok, Err}
use Rattle.model.specs.Contract.{Pinned}
use Rattle.order.specs.Asked.{Reads}
use Rattle.order.specs.declared.answer.Refusal.{Refusal}
use Rattle.order.specs.declared.asked.Order.{Order}
use Rattle.order.proofs.Asking.{asks_some, one_order}
use Rattle.order.proofs.answer.TwoWordsFromAnswer.from.Reads as as_words
use Rattle.order.proofs.asked.ArrayU643FromOrder.from.Reads as words
use Rattle.order.proofs.asked.OrderTryFromArrayU643.try_from.Reads as order

pub as_words_pinned : Pinned as_words.Post
as_words_pinned κs a r r' w w' p q = λ i. record { code = (p.0 ∙ sym q.0) i; value = (p.1 ∙ sym q.1) i }

read_one : (ws : List ℕ) (a b : Result Order Refusal) → Reads ws a → Reads ws b → a ≡ b
read_one ws (Ok o) (Ok r) p q = ap Ok (one_order o r (sym p ∙ q))
read_one ws (Ok o) (Err e) p q = absurd (asks_some o (sym p ∙ q.1))
read_one ws (Err d) (Ok r) p q = absurd (asks_some r (sym q ∙ p.1))
read_one ws (Err d) (Err e) p q = ap Err (p.0 ∙ sym q.0)

pub order_pinned : Pinned order.Post
order_pinned κs a r r' w w' p q = read_one a.0 r r' p q

pub words_pinned : Pinned words.Post
words_pinned κs a r r' w w' p q = p ∙ sym q
