-- Nothing is lost. For a user: what was answered 0 was carried out, what was not changed nothing, and so the marks held after any
-- orders are as many as before, and the inserts answered 0, less the removes answered 0.
use Prim.Native.Nat.{ℕ, ◌+◌, ◌%◌, ◌≤◌, ◌<◌}
use native.Mathlib.Omega.{arith}
use mathlib.Core.Path.{◌≡◌, refl, ap, ◌∙◌}
use mathlib.Core.Bool.{Bool}
use mathlib.Core.List.{List, [], ◌∷◌}
use lib.Dec.{eqb}
use lib.ListN.{length}
use borrow.Author.Tests.{eqb-true, eqb-false, eq-eqb}
use Rattle.model.specs.Marks as Marks
use Rattle.model.specs.Pool.{Pool}
use Rattle.model.specs.Tree.{marks}
use Rattle.model.proofs.Cases.{by_leb, by_ltb, by_test}
use Rattle.model.proofs.MarksEdits.{length_insert, length_remove}
use Rattle.order.specs.Answer.{code, value}
use Rattle.serve.specs.Orders as Serve
use Rattle.model.specs.Word.{digit}
use Rattle.order.specs.Asked.{asks, inserting, removing}
use Rattle.order.specs.Plain.{in_range, list_answer, list_after}
use Rattle.run.specs.Orders.{no_room, answer, after, answers, after_all, answer_words, orders_of}
use Rattle.std.specs.Prelude.{Ok}
use Rattle.demands.specs.Following.{counts, done}
use Rattle.demands.specs.History.{Entry, log}
use Rattle.demands.proofs.OrderByOrder.{after_marks, by_kind}
use Rattle.demands.proofs.Reading.{tells, becomes}
use Rattle.demands.proofs.Refusals.{refused_changes_nothing}

-- ---- done is done

pub insert_done : (i : ℕ) (b : Bool) (p : Pool) → code (answer (inserting i b) p) ≡ 0
    → (i ≤ length (marks p.tree)) × (marks (after (inserting i b) p).tree ≡ Marks.insert i b (marks p.tree))
unfolding Serve.answer list_answer list_after code
insert_done i b p e =
    by_test (no_room (inserting i b) p)
    (λ t. absurd (omega (arith, rw (Serve.answer, t) at e)))
    (λ t. by_leb i (length (marks p.tree))
    (λ u h. (h, after_marks (inserting i b) p t ∙ rw (list_after, u)))
    (λ u h. absurd (omega (arith, rw u at (rw (Serve.answer, t) at e)))))

pub remove_done : (i : ℕ) (p : Pool) → code (answer (removing i) p) ≡ 0
    → (i < length (marks p.tree)) × (answer (removing i) p ≡ Ok (digit (Marks.access i (marks p.tree))))
    × (marks (after (removing i) p).tree ≡ Marks.remove i (marks p.tree))
unfolding Serve.answer Serve.no_room list_answer list_after code
remove_done i p e =
    by_ltb i (length (marks p.tree))
    (λ u h. (
      h,
      ap (λ (c : Bool). in_range c (Ok (digit (Marks.access i (marks p.tree))))) u,
      after_marks (removing i) p refl
          ∙ rw (list_after, u),
    ))
    (λ u h. absurd (omega (arith, rw u at e)))

-- ---- what is counted

module _ (number : ℕ) (e : Entry) where
  counts_done : e.code ≡ 0 → e.number ≡ number → counts number e ≡ 1
  unfolding counts
  counts_done c n = rw (counts, c, eq-eqb e.number number n)

  counts_other : (e.number ≡ number → ⊥) → counts number e ≡ 0
  unfolding counts
  counts_other n =
      by_test (eqb e.code 0)
      (λ t. by_test (eqb e.number number) (λ u. absurd (n (eqb-true e.number number u))) (λ u. rw (counts, t, u)))
      (λ t. rw (counts, t))

  counts_refused : (e.code ≡ 0 → ⊥) → counts number e ≡ 0
  unfolding counts
  counts_refused c = by_test (eqb e.code 0) (λ t. absurd (c (eqb-true e.code 0 t))) (λ t. rw (counts, t))

-- ---- one order

-- an order of three words, with its answer
abbrev entry : ℕ → ℕ → ℕ → Pool → Entry
entry n x y p =
    record { number = n; second = x; third = y; code = code (answer (asks n x y) p); value = value (answer (asks n x y) p) }

-- it keeps the marks, but for those that it puts in or takes out
abbrev Keeps : ℕ → ℕ → ℕ → Pool → Type 0
Keeps n x y p =
    length (marks (after (asks n x y) p).tree) + counts 2 (entry n x y p) ≡ length (marks p.tree) + counts 1 (entry n x y p)

-- an insert and a remove that are answered 0
inserted : (x y : ℕ) (b : Bool) (p : Pool) → asks 1 x y ≡ inserting x b → code (answer (asks 1 x y) p) ≡ 0 → Keeps 1 x y p
inserted x y b p a e =
    let k = insert_done x b p (rw a at e) in
    let put : marks (after (asks 1 x y) p).tree ≡ Marks.insert x b (marks p.tree) = rw a k.1 in
    omega (
      arith,
      ap length put,
      length_insert x b (marks p.tree) k.0,
      counts_done 1 (entry 1 x y p) e refl,
      counts_other 2 (entry 1 x y p) (λ z. omega arith),
    )

removed : (x y : ℕ) (p : Pool) → asks 2 x y ≡ removing x → code (answer (asks 2 x y) p) ≡ 0 → Keeps 2 x y p
removed x y p a e =
    let k = remove_done x p (rw a at e) in
    let taken : marks (after (asks 2 x y) p).tree ≡ Marks.remove x (marks p.tree) = rw a k.2 in
    omega (
      arith,
      ap length taken,
      length_remove x (marks p.tree) k.0,
      counts_done 2 (entry 2 x y p) e refl,
      counts_other 1 (entry 2 x y p) (λ z. omega arith),
    )

-- any other order leaves the pool as it is
left : (n x y : ℕ) (p : Pool) → (n ≡ 1 → ⊥) → (n ≡ 2 → ⊥) → after (asks n x y) p ≡ p → Keeps n x y p
left n x y p one two e =
    omega
    (arith, ap (λ (q : Pool). length (marks q.tree)) e, counts_other 1 (entry n x y p) one, counts_other 2 (entry n x y p) two)

-- one that is not answered 0
refused : (n x y : ℕ) (p : Pool) → (code (answer (asks n x y) p) ≡ 0 → ⊥) → Keeps n x y p
refused n x y p c =
    omega (
      arith,
      ap (λ (q : Pool). length (marks q.tree)) (refused_changes_nothing (asks n x y) p c),
      counts_refused 1 (entry n x y p) c,
      counts_refused 2 (entry n x y p) c,
    )

-- any order
kept : (n x y : ℕ) (p : Pool) → Keeps n x y p
unfolding Serve.answer Serve.no_room list_answer code
kept n x y p =
    by_test (eqb (code (answer (asks n x y) p)) 0)
    (λ t.
    let e = eqb-true (code (answer (asks n x y) p)) 0 t in
    by_kind n x y
    (λ b one bit a. rw one (inserted x y b p (rw one at a) (rw one at e)))
    (λ two a. rw two (removed x y p (rw two at a) (rw two at e)))
    (λ q. left n x y p (λ one. omega (arith, q.number)) (λ two. omega (arith, q.number)) (q.leaves p))
    (λ u. absurd (omega (arith, rw u at e))))
    (λ t. refused n x y p (eqb-false (code (answer (asks n x y) p)) 0 t))

-- ---- a whole list of orders, in words

pub nothing_lost : (orders : List ℕ) (p : Pool) → length orders % 3 ≡ 0
    → length (marks (becomes orders p).tree) + done 2 (log orders (tells orders p))
    ≡ length (marks p.tree) + done 1 (log orders (tells orders p))
unfolding log orders_of answers after_all answer_words done
nothing_lost [] p h = refl
nothing_lost (n ∷ []) p h = absurd (omega arith)
nothing_lost (n ∷ x ∷ []) p h = absurd (omega arith)
nothing_lost (n ∷ x ∷ y ∷ orders) p h =
    let o = asks n x y in
    omega (arith, kept n x y p, nothing_lost orders (after o p) (omega arith))
