-- What crosses to the host: the number and the value of the window's answer.
use Rattle.std.specs.Prelude.{◌≡◌}
use Rattle.order.specs.Answer.{Answer, code, value}
use Rattle.spelunzone.specs.declared.Reply.{Reply}

-- the reply is this answer
pub record Carries (a : Answer) (r : Reply) : Type 0 where
  pub code : r.code ≡ code a
  pub value : r.value ≡ value a

-- the reply is an answer that the call may give
pub record Replies (P : Answer → Type 0) (r : Reply) : Type 0 where
  pub answer : Answer
  pub allowed : P answer
  pub carries : Carries answer r
