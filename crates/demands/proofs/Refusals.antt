-- Demand 1, of orders. For a user: an order that is not answered 0 changes no mark and no node, and its code is the first of 5, 2, 1, 3, 4 that
-- applies to it.
use Prim.Native.Nat.{ℕ, zero, suc, ◌≤◌, ◌<◌}
use native.Mathlib.Omega.{arith}
use mathlib.Core.Path.{◌≡◌, refl, ap}
use mathlib.Core.Bool.{Bool}
use mathlib.Core.List.{List}
use lib.ListN.{length}
use Rattle.model.specs.Edit.{leaf_at}
use Rattle.model.specs.Marks as Marks
use Rattle.model.specs.Pool as Pool
use Rattle.model.specs.Pool.{Pool, two_free}
use Rattle.model.specs.Sound.{Sound}
use Rattle.model.specs.Tree.{marks}
use Rattle.model.proofs.Cases.{by_leb, by_ltb, by_test}
use Rattle.model.proofs.Counting.{select_none}
use Rattle.model.proofs.Floor.{full_means, means_full, whole_sized}
use Rattle.order.specs.Answer.{code}
use Rattle.serve.specs.Orders as Serve
use Rattle.order.specs.Asked.{Asked, inserting, removing, accessing, ranking, selecting, quiet, unknown}
use Rattle.order.specs.Plain.{in_range, placed, list_answer}
use Rattle.run.specs.Orders.{answer, after}
use Rattle.std.specs.Prelude.{Ok, Err}
use Rattle.order.specs.declared.answer.Refusal.TheVariants.{OutOfRange, NoZeroth, TooFew, Full, Malformed}
use Rattle.demands.proofs.OrderByOrder.{list_codes, by_room}

-- an insert at place i finds no room: the place is in range, its leaf holds 127 marks, and fewer than two nodes are free
pub record Roomless (i : ℕ) (p : Pool) : Type 0 where
  pub in_range : i ≤ length (marks p.tree)
  pub leaf_full : length (leaf_at i p.tree) ≡ 127
  pub few_free : length p.free < 2

-- not carried out: nothing is changed
pub refused_changes_nothing : (o : Asked) (p : Pool) → (code (answer o p) ≡ 0 → ⊥) → after o p ≡ p
unfolding Serve.after Serve.answer Serve.no_room list_answer code
refused_changes_nothing (inserting i b) p refused =
    by_leb i (length (marks p.tree))
    (λ t h. by_room i b p
    (λ _ f. rw (Serve.after, t, f))
    (λ q f _. absurd (refused (rw (Serve.answer, Serve.no_room, t, f) (ap (λ (c : Bool). code (in_range c (Ok 0))) t)))))
    (λ t h. rw (Serve.after, t))
refused_changes_nothing (removing i) p refused =
    by_ltb i (length (marks p.tree)) (λ t h. absurd (refused (rw (Serve.answer, Serve.no_room, list_answer, t)))) (λ t h. rw (Serve.after, t))
refused_changes_nothing (accessing i) p refused = refl
refused_changes_nothing (ranking i b) p refused = refl
refused_changes_nothing (selecting i b) p refused = refl
refused_changes_nothing quiet p refused = refl
refused_changes_nothing unknown p refused = refl

-- ---- the code is the first that applies

-- 5: an unknown number, or a word that is not as it should be
pub first_5 : (p : Pool) → answer unknown p ≡ Err Malformed
unfolding Serve.answer Serve.no_room list_answer
first_5 p = refl

-- 2: the zeroth mark is asked for
pub first_2 : (b : Bool) (p : Pool) → answer (selecting zero b) p ≡ Err NoZeroth
unfolding Serve.answer Serve.no_room list_answer
first_2 b p = refl

-- 1: a place out of range
pub first_1_insert : (i : ℕ) (b : Bool) (p : Pool) → length (marks p.tree) < i → answer (inserting i b) p ≡ Err OutOfRange
unfolding Serve.answer Serve.no_room list_answer
first_1_insert i b p h =
    by_leb i (length (marks p.tree)) (λ t k. absurd (omega arith))
    (λ t k. rw (Serve.answer, Serve.no_room, t) (ap (λ (c : Bool). in_range c (Ok 0)) t))

pub first_1_remove : (i : ℕ) (p : Pool) → length (marks p.tree) ≤ i → answer (removing i) p ≡ Err OutOfRange
unfolding Serve.answer Serve.no_room list_answer
first_1_remove i p h = by_ltb i (length (marks p.tree)) (λ t k. absurd (omega arith)) (λ t k. rw (Serve.answer, Serve.no_room, list_answer, t))

pub first_1_access : (i : ℕ) (p : Pool) → length (marks p.tree) ≤ i → answer (accessing i) p ≡ Err OutOfRange
unfolding Serve.answer Serve.no_room list_answer
first_1_access i p h = by_ltb i (length (marks p.tree)) (λ t k. absurd (omega arith)) (λ t k. rw (Serve.answer, Serve.no_room, list_answer, t))

pub first_1_rank : (end : ℕ) (b : Bool) (p : Pool) → length (marks p.tree) < end → answer (ranking end b) p ≡ Err OutOfRange
unfolding Serve.answer Serve.no_room list_answer
first_1_rank end b p h = by_leb end (length (marks p.tree)) (λ t k. absurd (omega arith)) (λ t k. rw (Serve.answer, Serve.no_room, list_answer, t))

-- 3: fewer marks of the kind than asked for
pub first_3 : (k : ℕ) (b : Bool) (p : Pool) → Marks.count b (marks p.tree) < suc k → answer (selecting (suc k) b) p ≡ Err TooFew
unfolding Serve.answer Serve.no_room list_answer
first_3 k b p h = ap placed (select_none b (suc k) (marks p.tree) h)

-- 4: Full, exactly where an insert in range leads to a leaf of 127 marks and fewer than two nodes are free
pub full_if : (i : ℕ) (b : Bool) (p : Pool) → Roomless i p → answer (inserting i b) p ≡ Err Full
unfolding Serve.answer Serve.no_room
full_if i b p r =
    let f = means_full i p r.leaf_full r.few_free in
    by_leb i (length (marks p.tree)) (λ t k. rw (Serve.answer, Serve.no_room, t, f)) (λ t k. absurd (omega (arith, r.in_range)))

-- the list does not answer it
list_not_full : (o : Asked) (xs : List Bool) → list_answer o xs ≡ Err Full → ⊥
unfolding code
list_not_full o xs e = (list_codes o xs).0 (ap code e)

pub full_insert : (n i : ℕ) (b : Bool) (p : Pool) → Sound n p → answer (inserting i b) p ≡ Err Full → Roomless i p
unfolding Serve.answer Serve.no_room list_answer code
full_insert n i b p s e =
    by_leb i (length (marks p.tree))
    (λ t h. by_test (Pool.full (two_free p) i p)
    (λ f. let m = full_means 0 i p (whole_sized p.tree s.whole) f in record { in_range = h; leaf_full = m.0; few_free = m.1 })
    (λ f. let k = rw (Serve.answer, Serve.no_room, t, f) at e in absurd (list_not_full (inserting i b) (marks p.tree) k)))
    (λ t h. let k = rw (Serve.answer, Serve.no_room, t) at e in absurd (list_not_full (inserting i b) (marks p.tree) k))

pub full_only_if : (n : ℕ) (o : Asked) (p : Pool) → Sound n p → answer o p ≡ Err Full → (i : ℕ) × (b : Bool) × (o ≡ inserting i b) × Roomless i p
unfolding Serve.answer Serve.no_room list_answer code
full_only_if n (inserting i b) p s e = (i, b, refl, full_insert n i b p s e)
full_only_if n (removing i) p s e = absurd (list_not_full (removing i) (marks p.tree) e)
full_only_if n (accessing i) p s e = absurd (list_not_full (accessing i) (marks p.tree) e)
full_only_if n (ranking end b) p s e = absurd (list_not_full (ranking end b) (marks p.tree) e)
full_only_if n (selecting k b) p s e = absurd (list_not_full (selecting k b) (marks p.tree) e)
full_only_if n quiet p s e = absurd (list_not_full quiet (marks p.tree) e)
full_only_if n unknown p s e = absurd (list_not_full unknown (marks p.tree) e)
