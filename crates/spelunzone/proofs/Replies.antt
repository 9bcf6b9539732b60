-- A call's reply is told by its answer.
use mathlib.Core.Path.{◌≡◌, sym, ap, ◌∙◌}
use Rattle.order.specs.Answer.{Answer, code, value}
use Rattle.spelunzone.specs.Reply.{Replies}
use Rattle.spelunzone.specs.declared.Reply.{Reply}

-- where a call may give one answer only, it makes one reply only
pub one_reply : (P Q : Answer → Type 0) (r s : Reply) → ((a b : Answer) → P a → Q b → a ≡ b) → Replies P r → Replies Q s → r ≡ s
one_reply P Q r s one p q =
    let same : p.answer ≡ q.answer = one p.answer q.answer p.allowed q.allowed in
    λ i. record {
      code = (p.carries.code ∙ ap code same ∙ sym q.carries.code) i;
      value = (p.carries.value ∙ ap value same ∙ sym q.carries.value) i;
    }
