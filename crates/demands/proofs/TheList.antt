-- Demand 2. For a user: ask the window anything, and the answer is that of a plain list of bits; change it, and its marks are the list's. The one
-- answer that a list would not give is Full, and then nothing has changed.
use Prim.Native.Nat.{ℕ, ◌%◌}
use native.Mathlib.Omega.{arith}
use mathlib.Core.Path.{◌≡◌, refl, sym, ap, ◌∙◌}
use mathlib.Core.Bool.{true, false}
use mathlib.Core.List.{List, [], ◌∷◌}
use mathlib.Core.Logic.{inl, inr}
use lib.Dec.{eqb}
use borrow.Author.Tests.{eqb-true, eqb-false}
use lib.ListN.{length}
use Rattle.model.specs.Pool.{Pool}
use Rattle.model.specs.Tree.{marks}
use Rattle.model.proofs.Cases.{by_test}
use Rattle.order.specs.Answer.{code, value}
use Rattle.run.specs.Runs.{order_count}
use Rattle.serve.specs.Orders as Serve
use Rattle.order.specs.Asked.{Asked, asks}
use Rattle.order.specs.Plain.{list_answer, list_after}
use Rattle.run.specs.Orders.{orders_of, no_room, answer, after, answers, after_all, answer_words, list_after_all, list_answers}
use Rattle.std.specs.Prelude.{Err}
use Rattle.order.specs.declared.answer.Refusal.TheVariants.{Full}
use Rattle.demands.specs.Following.{Follows, NoneFull, carried_out}
use Rattle.demands.specs.History.{log}
use Rattle.demands.proofs.OrderByOrder.{after_full, after_marks}
use Rattle.demands.proofs.Reading.{tells, becomes}
use Rattle.demands.proofs.Refusals.{refused_changes_nothing}

-- an order that finds no room
pub one_order_full : (o : Asked) (p : Pool) → no_room o p ≡ true → (answer o p ≡ Err Full) × (after o p ≡ p)
unfolding Serve.answer
one_order_full o p e = (rw (Serve.answer, e), after_full o p e)

-- and any other
pub one_order : (o : Asked) (p : Pool) → no_room o p ≡ false
    → (answer o p ≡ list_answer o (marks p.tree)) × (marks (after o p).tree ≡ list_after o (marks p.tree))
unfolding Serve.answer
one_order o p e = (rw (Serve.answer, e), after_marks o p e)

-- what is answered 0 is carried out
pub done_marks : (o : Asked) (p : Pool) → code (answer o p) ≡ 0 → marks (after o p).tree ≡ list_after o (marks p.tree)
unfolding Serve.answer code
done_marks o p e = by_test (no_room o p) (λ t. absurd (omega (arith, rw (Serve.answer, t) at e))) (λ t. (one_order o p t).1)

-- ---- a whole list of orders, in words

-- every order has its answer
pub log_length : (orders : List ℕ) (p : Pool) → length orders % 3 ≡ 0 → length (log orders (tells orders p)) ≡ order_count orders
unfolding log orders_of answers answer_words
log_length [] p h = refl
log_length (n ∷ []) p h = absurd (omega arith)
log_length (n ∷ x ∷ []) p h = absurd (omega arith)
log_length (n ∷ x ∷ y ∷ orders) p h = omega (arith, log_length orders (after (asks n x y) p) (omega arith))

pub follows : (orders : List ℕ) (p : Pool) → length orders % 3 ≡ 0
    → Follows (log orders (tells orders p)) (marks p.tree) (marks (becomes orders p).tree)
unfolding log orders_of answers after_all answer_words code value
follows [] p h = refl
follows (n ∷ []) p h = absurd (omega arith)
follows (n ∷ x ∷ []) p h = absurd (omega arith)
follows (n ∷ x ∷ y ∷ orders) p h =
    let o = asks n x y in
    let more = follows orders (after o p) (omega arith) in
    by_test (no_room o p)
    (λ e.
    let k = one_order_full o p e in
    inr (record { code = ap code k.0; value = ap value k.0 }, rw (sym (ap (λ (q : Pool). marks q.tree) k.1)) more))
    (λ e.
    let k = one_order o p e in
    inl (record { code = ap code k.0; value = ap value k.0 }, rw (sym k.1) more))

-- the marks afterwards are those of the list with the orders answered 0 carried out
pub carried : (orders : List ℕ) (p : Pool) → length orders % 3 ≡ 0
    → marks (becomes orders p).tree ≡ carried_out (log orders (tells orders p)) (marks p.tree)
unfolding log orders_of answers after_all answer_words carried_out
carried [] p h = refl
carried (n ∷ []) p h = absurd (omega arith)
carried (n ∷ x ∷ []) p h = absurd (omega arith)
carried (n ∷ x ∷ y ∷ orders) p h =
    let o = asks n x y in
    let more = carried orders (after o p) (omega arith) in
    by_test (eqb (code (answer o p)) 0)
    (λ t. rw t (more ∙ ap (carried_out (log orders (tells orders (after o p)))) (done_marks o p (eqb-true (code (answer o p)) 0 t))))
    (λ t. rw t
    (more
    ∙ ap (λ (q : Pool). carried_out (log orders (tells orders (after o p))) (marks q.tree))
    (refused_changes_nothing o p (eqb-false (code (answer o p)) 0 t))))

-- where no answer is 4, all that is told is what the list answers, and the marks afterwards are the list's
pub told_with_room : (orders : List ℕ) (p : Pool) → length orders % 3 ≡ 0 → NoneFull (log orders (tells orders p))
    → (tells orders p ≡ answer_words (list_answers (orders_of orders) (marks p.tree)))
    × (marks (becomes orders p).tree ≡ list_after_all (orders_of orders) (marks p.tree))
unfolding log orders_of answers after_all answer_words list_answers list_after_all code
told_with_room [] p h f = (refl, refl)
told_with_room (n ∷ []) p h f = absurd (omega arith)
told_with_room (n ∷ x ∷ []) p h f = absurd (omega arith)
told_with_room (n ∷ x ∷ y ∷ orders) p h f =
    let o = asks n x y in
    by_test (no_room o p)
    (λ e. absurd (f.0 (ap code (one_order_full o p e).0)))
    (λ e.
    let k = one_order o p e in
    let r = told_with_room orders (after o p) (omega arith) f.1 in
    let answered : List ℕ → List ℕ = λ ws. code (list_answer o (marks p.tree)) ∷ value (list_answer o (marks p.tree)) ∷ ws in
    (rw k.0 (ap answered (rw (sym k.1) r.0)), rw (sym k.1) r.1))
