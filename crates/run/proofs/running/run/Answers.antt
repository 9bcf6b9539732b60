-- The tests in their sequence; where a pool stands, all the orders are served. Assumes nothing.
use Prim.Native.Nat.{ℕ, ◌/◌, ◌%◌}
use native.Mathlib.Omega.{arith}
use mathlib.Core.Bool.{true}
use mathlib.Core.Path.{◌≡◌, refl}
use lib.ListN.{length}
use Rattle.std.proofs.lemmas.Result.{err_from_is_err_and}
use Rattle.std.specs.Prelude.{map, ◌==◌}
use Rattle.order.specs.Asked.{asked_by}
use Rattle.run.specs.Orders.{orders_of}
use Rattle.run.proofs.OneByOne.{cut_orders}
use Rattle.run.proofs.Runs.{no_ran, part_ran, short_ran, damaged_ran, served_ran}
use Rattle.run.proofs.running.run.Goals as goal

-- no part of an order is left
whole : {left : ℕ} (words : ℕ) → left ≡ words % 3 → true ≡ (left == 0) → words % 3 ≡ 0
whole words e t = grind (arith, e, t)

pub returns-in_err-n : goal.returns-in_err-n
returns-in_err-n c =
    let e = err_from_is_err_and c.from_residual.result c.from_residual.ensures.1 in
    rw (e.1, e.2, c.in_err-n.ensures.0) (no_ran _ _ _ c.in_err-n.ensures.1)

pub returns-then-not-is_empty : goal.returns-then-not-is_empty
returns-then-not-is_empty c =
    part_ran _ _ _ _ c.in_ok-n.ensures (λ w.
    let none : length c.args.orders.now % 3 ≡ 0 = w in
    grind (arith, c.if-not-is_empty.ensures, c.as_chunks.ensures.back_len))

pub returns-then-out-orders : goal.returns-then-out-orders
returns-then-out-orders c =
    short_ran _ _ _ _ c.in_ok-n.ensures (whole _ c.as_chunks.ensures.back_len c.if-not-is_empty.ensures)
    (omega (arith, c.if-out-orders.true, c.as_chunks.ensures.front_len))

pub returns-in_err-judged : goal.returns-in_err-judged
returns-in_err-judged c =
    let e = err_from_is_err_and c.from_residual-in_err-judged.result c.from_residual-in_err-judged.ensures.1 in
    rw (e.1, e.2, c.in_err-judged.ensures.0)
    (damaged_ran _ _ _ _ c.in_ok-n.ensures (whole _ c.as_chunks.ensures.back_len c.if-not-is_empty.ensures)
    (omega (arith, c.if-out-orders.false, c.as_chunks.ensures.front_len)) c.in_err-judged.ensures.1)

pub returns : goal.returns
returns c =
    let j = c.in_ok-judged.ensures in
    let count = c.as_chunks.ensures.front_len in
    let cut : map asked_by c.as_chunks.result.0.now ≡ orders_of c.args.orders.now =
    rw c.as_chunks.ensures.front (cut_orders c.args.orders.now (length c.args.orders.now / 3) refl) in
    let ran =
    served_ran _ _ _ _ c.in_ok-n.ensures (whole _ c.as_chunks.ensures.back_len c.if-not-is_empty.ensures)
    (omega (arith, c.if-out-orders.false, count)) j.0 j.1 (rw (cut, count) at c.serve_all.ensures) in
    rw (← count) at ran
