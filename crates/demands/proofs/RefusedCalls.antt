-- Demand 1, of calls. For a user: a call that is not answered 0 has changed no word that it was lent.
--
-- A contract has a case for each thing that the words can be, and that one of them is the case is known doubly negated. That is enough, as words can
-- be compared.
use Prim.Native.Nat.{ℕ, ◌*◌, ◌%◌, ◌≤◌, ◌<◌}
use native.Mathlib.Omega.{arith}
use mathlib.Core.Path.{◌≡◌, refl, ap}
use mathlib.Core.List.{List}
use Rattle.std.specs.Prelude.{Option, None, Some, Ok}
use lib.ListN.{length, take}
use Rattle.model.specs.Pool as Pool
use Rattle.model.specs.Pool.{Pool}
use Rattle.model.specs.Tree.{size}
use Rattle.model.specs.Word.{marks_of, words_for}
use Rattle.model.proofs.Cases.{by_ltb}
use Rattle.order.specs.Answer.{Answer, code}
use Rattle.run.specs.Runs.{Ran, Unchanged, order_count}
use Rattle.window.specs.Calls.{BuildsTo, Valued}
use Rattle.window.specs.Layout.{Counted}
use Rattle.window.proofs.Pinned.{Likely, words_stable, sized, cases}

-- an answer that is done has the code 0
done_code : {A : Type 0} (r : Answer) (v : ℕ) → (code r ≡ 0 → ⊥) → r ≡ Ok v → A
unfolding code
done_code r v refused e = absurd (refused (ap code e))

pub build_refused : (ws words : List ℕ) (len : ℕ) (r : Answer) (ws' : List ℕ) → BuildsTo ws words len r ws' → (code r ≡ 0 → ⊥) → ws' ≡ ws
build_refused ws words len r ws' b refused =
    words_stable ws' ws
    (sized ws (λ d. (b.no_pool d).1)
    (λ n c. by_ltb (64 * length words) len (λ _ h. (b.too_long n c h).1) (λ _ h. made n c h (Pool.build n (take len (marks_of words))) refl)))
  where
    made : (n : ℕ) → Counted ws n → len ≤ 64 * length words → (o : Option Pool) → Pool.build n (take len (marks_of words)) ≡ o → ws' ≡ ws
    made n c h None e = (b.full n c h e).1
    made n c h (Some p) e = done_code r len refused (b.built n p c h e).0

pub values_refused : (ws out : List ℕ) (r : Answer) (out' : List ℕ) → Valued ws out r out' → (code r ≡ 0 → ⊥) → out' ≡ out
values_refused ws out r out' v refused =
    words_stable out' out
    (cases ws (λ d. (v.no_pool d).1) (λ d. (v.damaged d).1)
    (λ n p s.
    by_ltb (length out) (words_for (size p.tree)) (λ _ h. (v.short n p s h).1) (λ _ h. done_code r _ refused (v.written n p s h).0)))

-- run's tests of the lists come before that of the pool
listed : (orders out : List ℕ) {G : Type 0} → ((length orders % 3 ≡ 0 → ⊥) → G) → (length orders % 3 ≡ 0 → length out < 2 * order_count orders → G)
    → (length orders % 3 ≡ 0 → 2 * order_count orders ≤ length out → G) → G
listed orders out part short fits =
    by_ltb 0 (length orders % 3)
    (λ _ h. part (λ e. omega arith))
    (λ _ h. let whole : length orders % 3 ≡ 0 = omega arith in
    by_ltb (length out) (2 * order_count orders) (λ _ k. short whole k) (λ _ k. fits whole k))

pub run_refused : (ws orders out : List ℕ) (r : Answer) (ws' out' : List ℕ) → Ran ws orders out r ws' out' → (code r ≡ 0 → ⊥)
    → (ws' ≡ ws) × (out' ≡ out)
run_refused ws orders out r ws' out' ran refused =
    (words_stable ws' ws (λ k. likely (λ u. k u.pool)), words_stable out' out (λ k. likely (λ u. k u.output)))
  where
    likely : Likely (Unchanged ws ws' out out')
    likely =
        cases ws (λ d. (ran.no_pool d).1)
        (λ d. listed orders out
        (λ h. (ran.part d.count.0 d.count.1 h).1) (λ w h. (ran.short d.count.0 d.count.1 w h).1) (λ w h. (ran.damaged d w h).1))
        (λ n p s. listed orders out
        (λ h. (ran.part n s.counted h).1) (λ w h. (ran.short n s.counted w h).1) (λ w h. done_code r _ refused (ran.served n p s w h).0))
