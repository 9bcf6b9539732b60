-- The first word chooses, and the words beside it are tested; what is no order is malformed. Assumes nothing.
use borrow.Author.Rules.{rules}
use mathlib.Core.Path.{refl, ◌∙◌}
use Rattle.std.proofs.lemmas.Result.{err_from_is_err_and}
use Rattle.order.proofs.Asking.{asks_access, asks_insert, asks_nothing, asks_quiet, asks_rank, asks_remove, asks_select, is_zero, no_zero}
use Rattle.order.proofs.asked.OrderTryFromArrayU643.try_from.Goals as goal

-- ---- a word beside it is no bit

pub returns-in_err-bit-in-1 : goal.returns-in_err-bit-in-1
returns-in_err-bit-in-1 c =
    let e = err_from_is_err_and c.from_residual.result c.from_residual.ensures.1 in
    rw (e.1, e.2, c.in_err-bit-in-1.ensures.0) (refl, asks_insert _ _ _ c.in-1.is ∙ c.in_err-bit-in-1.ensures.1 _)

pub returns-in_err-bit-in-4 : goal.returns-in_err-bit-in-4
returns-in_err-bit-in-4 c =
    let e = err_from_is_err_and c.from_residual-in_err-bit-in-4.result c.from_residual-in_err-bit-in-4.ensures.1 in
    rw (e.1, e.2, c.in_err-bit-in-4.ensures.0) (refl, asks_rank _ _ _ c.in-4.is ∙ c.in_err-bit-in-4.ensures.1 _)

pub returns-in_err-bit-in-5 : goal.returns-in_err-bit-in-5
returns-in_err-bit-in-5 c =
    let e = err_from_is_err_and c.from_residual-in_err-bit-in-5.result c.from_residual-in_err-bit-in-5.ensures.1 in
    rw (e.1, e.2, c.in_err-bit-in-5.ensures.0) (refl, asks_select _ _ _ c.in-5.is ∙ c.in_err-bit-in-5.ensures.1 _)

-- ---- orders

pub returns-in_ok-bit-in-1 : goal.returns-in_ok-bit-in-1
returns-in_ok-bit-in-1 c = asks_insert _ _ _ c.in-1.is ∙ c.in_ok-bit-in-1.ensures _

pub returns-in-2 : goal.returns-in-2
returns-in-2 c = asks_remove _ _ _ c.in-2.is ∙ is_zero _ _ c.if-third-eq0.true

pub returns-in-3 : goal.returns-in-3
returns-in-3 c = asks_access _ _ _ c.in-3.is ∙ is_zero _ _ c.if-third-eq0-2.true

pub returns-in_ok-bit-in-4 : goal.returns-in_ok-bit-in-4
returns-in_ok-bit-in-4 c = asks_rank _ _ _ c.in-4.is ∙ c.in_ok-bit-in-4.ensures _

pub returns-in_ok-bit-in-5 : goal.returns-in_ok-bit-in-5
returns-in_ok-bit-in-5 c = asks_select _ _ _ c.in-5.is ∙ c.in_ok-bit-in-5.ensures _

pub returns-in-6 : goal.returns-in-6
returns-in-6 c = asks_quiet _ _ _ c.in-6.is ∙ is_zero _ _ c.if-second-eq0.true ∙ is_zero _ _ c.if-third-eq0-3.true

-- ---- no order

pub returns-in_default : goal.returns-in_default
returns-in_default c = (refl, asks_remove _ _ _ c.in-2.is ∙ no_zero _ _ c.if-third-eq0.false)

pub returns-in_default-2 : goal.returns-in_default-2
returns-in_default-2 c = (refl, asks_access _ _ _ c.in-3.is ∙ no_zero _ _ c.if-third-eq0-2.false)

pub returns-in_default-3 : goal.returns-in_default-3
returns-in_default-3 c = (refl, asks_quiet _ _ _ c.in-6.is ∙ is_zero _ _ c.if-second-eq0.true ∙ no_zero _ _ c.if-third-eq0-3.false)

pub returns-in_default-4 : goal.returns-in_default-4
returns-in_default-4 c = (refl, asks_quiet _ _ _ c.in-6.is ∙ no_zero _ _ c.if-second-eq0.false)

pub returns-in_default-5 : goal.returns-in_default-5
returns-in_default-5 c = (
  refl,
  asks_nothing _ _ _ (search rules) (search rules) (search rules) (search rules) (search rules) (search rules),
)
