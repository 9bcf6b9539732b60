-- The contract of `run` determines its answer, the pool's words afterwards and the output. The law speaks of the contract as the check reads it
-- off the source.
use Prim.Native.Nat.{ℕ, ◌*◌, ◌%◌, ◌≤◌}
use native.Mathlib.Omega.{arith}
use mathlib.Core.Path.{◌≡◌, sym, ◌∙◌}
use mathlib.Core.List.{List}
use lib.ListN.{length}
use Rattle.model.proofs.Cases.{by_ltb}
use Rattle.order.specs.Answer.{Answer}
use Rattle.window.specs.Layout.{Counted}
use Rattle.window.proofs.Pinned.{Likely, answer_stable, cases, one_layout, words_stable}
use Rattle.run.specs.Orders.{orders_of, after_all}
use Rattle.run.specs.Runs.{Unchanged, Ran, order_count}
use Rattle.run.proofs.running.run.Reads as run

-- two answers that leave everything as it was
alike : {ws vs us out o u : List ℕ} {a b c : Answer} → (a ≡ c) × Unchanged ws vs out o → (b ≡ c) × Unchanged ws us out u
    → (a ≡ b) × (vs ≡ us) × (o ≡ u)
alike p q = (p.0 ∙ sym q.0, p.1.pool ∙ sym q.1.pool, p.1.output ∙ sym q.1.output)

pub ran_one : (ws orders out : List ℕ) (a b : Answer) (vs us o u : List ℕ) → Ran ws orders out a vs o → Ran ws orders out b us u
    → (a ≡ b) × (vs ≡ us) × (o ≡ u)
ran_one ws orders out a b vs us o u p q =
    let likely : Likely ((a ≡ b) × (vs ≡ us) × (o ≡ u)) =
    cases ws (λ d. alike (p.no_pool d) (q.no_pool d))
    (λ d. past d.count.0 d.count.1 (λ whole room. alike (p.damaged d whole room) (q.damaged d whole room)))
    (λ n s t.
    past n t.counted
    (λ whole room.
    let x = p.served n s t whole room in
    let y = q.served n s t whole room in
    (x.0 ∙ sym y.0, one_layout vs us n (after_all (orders_of orders) s) x.1 y.1, x.2 ∙ sym y.2))) in (
      answer_stable a b (λ h. likely (λ e. h e.0)),
      words_stable vs us (λ h. likely (λ e. h e.1)),
      words_stable o u (λ h. likely (λ e. h e.2)),
    )
  where
    -- the tests of the orders and of the output
    past : (n : ℕ) → Counted ws n → (length orders % 3 ≡ 0 → 2 * order_count orders ≤ length out → (a ≡ b) × (vs ≡ us) × (o ≡ u))
        → (a ≡ b) × (vs ≡ us) × (o ≡ u)
    past n c f =
        by_ltb 0 (length orders % 3) (λ _ h. alike (p.part n c (λ e. omega arith)) (q.part n c (λ e. omega arith)))
        (λ _ h.
        let whole : length orders % 3 ≡ 0 = omega arith in
        by_ltb (length out) (2 * order_count orders) (λ _ k. alike (p.short n c whole k) (q.short n c whole k)) (λ _ k. f whole k))

pub run_pinned : (κs : _) (a : _) (r r' : _) (w w' : _) → run.Post κs a r w → run.Post κs a r' w'
    → (r ≡ r') × (w.0.now ≡ w'.0.now) × (w.1.1.0.now ≡ w'.1.1.0.now)
run_pinned κs a r r' w w' p q = ran_one _ _ _ r r' _ _ _ _ p q
