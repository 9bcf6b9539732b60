-- Demand 3, two pools. For a user: a small pool and a large one that are built from the same marks and given the same orders answer alike, order by
-- order; or the first answer that differs is Full, from the smaller. The size of a pool is told by nothing else.
use Prim.Native.Nat.{ℕ, ◌%◌, ◌≤◌}
use native.Mathlib.Omega.{arith}
use mathlib.Core.Path.{◌≡◌, refl, sym, ap, ◌∙◌}
use mathlib.Core.Bool.{Bool, true, false}
use mathlib.Core.List.{List, [], ◌∷◌}
use mathlib.Core.Logic.{inl, inr}
use Rattle.std.specs.Prelude.{None, Some, Ok, Err}
use lib.Dec.{leb, ltb}
use lib.ListN.{length}
use Rattle.model.specs.Pool as Pool
use Rattle.model.specs.Pool.{Pool, two_free}
use Rattle.model.specs.Tree.{marks}
use Rattle.model.proofs.Cases.{by_leb, by_ltb}
use Rattle.model.proofs.Content.{size_marks}
use Rattle.model.proofs.TwoPools.{Wider, Steps, alike, both_full, one_full, build_wider, insert_wider, remove_wider}
use Rattle.order.specs.Answer.{Answer, code, value}
use Rattle.serve.specs.Orders as Serve
use Rattle.order.specs.Asked.{Asked, inserting, removing, accessing, ranking, selecting, quiet, unknown, asks}
use Rattle.order.specs.Plain.{in_range, list_answer}
use Rattle.run.specs.Orders.{orders_of, answer, after, answers, answer_words}
use Rattle.order.specs.declared.answer.Refusal.TheVariants.{Full}
use Rattle.demands.specs.Following.{AgreeOrFull}
use Rattle.demands.specs.History.{Entry, log}
use Rattle.demands.proofs.OrderByOrder.{by_room}
use Rattle.demands.proofs.Reading.{tells}

-- what one order makes of both: they agree and are as they were to each other, or the smaller is full and the larger is not
pub data Both (p q : Pool) (a b : Answer) : Type 0 where
  agree : a ≡ b → Wider p q → Both p q a b
  smaller_full : a ≡ Err Full → (code b ≡ 4 → ⊥) → Both p q a b

-- an insert in range, by what the model's insert makes of the pool
in_room : (i : ℕ) (b : Bool) (p q : Pool) → leb i (length (marks p.tree)) ≡ true → Pool.insert (two_free p) i b p ≡ Some q
    → (answer (inserting i b) p ≡ Ok 0) × (after (inserting i b) p ≡ q)
unfolding Serve.answer Serve.no_room Serve.after list_answer
in_room i b p q t e =
    by_room i b p
    (λ _ f. let z : None ≡ Some q = sym f ∙ e in let n : ◌≡◌ {A = ℕ} 0 1 = cc in absurd (omega arith))
    (λ r f g. (rw (Serve.answer, Serve.no_room, t, f) (ap (λ (c : Bool). in_range c (Ok 0)) t), rw (Serve.after, t, e)))

no_more_room : (i : ℕ) (b : Bool) (p : Pool) → leb i (length (marks p.tree)) ≡ true → Pool.insert (two_free p) i b p ≡ None
    → (answer (inserting i b) p ≡ Err Full) × (after (inserting i b) p ≡ p)
unfolding Serve.answer Serve.no_room Serve.after
no_more_room i b p t e =
    by_room i b p
    (λ f _. (rw (Serve.answer, Serve.no_room, t, f), rw (Serve.after, t, e)))
    (λ r f g. let z : None ≡ Some r = sym e ∙ g in let n : ◌≡◌ {A = ℕ} 0 1 = cc in absurd (omega arith))

out_of_range : (i : ℕ) (b : Bool) (p : Pool) → leb i (length (marks p.tree)) ≡ false
    → (answer (inserting i b) p ≡ in_range false (Ok 0)) × (after (inserting i b) p ≡ p)
unfolding Serve.answer Serve.no_room Serve.after list_answer
out_of_range i b p t = (rw (Serve.answer, Serve.no_room, t) (ap (λ (c : Bool). in_range c (Ok 0)) t), rw (Serve.after, t))

inserts : (i : ℕ) (b : Bool) (p q : Pool) → Wider p q
    → leb i (length (marks p.tree)) ≡ true → leb i (length (marks q.tree)) ≡ true
    → Steps (Pool.insert (two_free p) i b p) (Pool.insert (two_free q) i b q)
    → Both (after (inserting i b) p) (after (inserting i b) q) (answer (inserting i b) p) (answer (inserting i b) q)
unfolding code
inserts i b p q w t u (alike p' q' e f v) =
    let j = in_room i b p p' t e in
    let k = in_room i b q q' u f in
    agree (j.0 ∙ sym k.0) (rw (j.1, k.1) v)
inserts i b p q w t u (both_full e f) =
    let j = no_more_room i b p t e in
    let k = no_more_room i b q u f in
    agree (j.0 ∙ sym k.0) (rw (j.1, k.1) w)
inserts i b p q w t u (one_full q' e f) =
    let j = no_more_room i b p t e in
    let k = in_room i b q q' u f in
    smaller_full j.0 (λ z. omega (arith, ap code k.0))

same_marks : (p q : Pool) → Wider p q → marks q.tree ≡ marks p.tree
same_marks p q w = ap marks w.tree

pub both_orders : (o : Asked) (p q : Pool) → Wider p q → Both (after o p) (after o q) (answer o p) (answer o q)
unfolding Serve.answer Serve.no_room Serve.after list_answer
both_orders (inserting i b) p q w =
    let m = size_marks p.tree in
    let s = same_marks p q w in
    by_leb i (length (marks p.tree))
    (λ t h. inserts i b p q w t (ap (λ (xs : List Bool). leb i (length xs)) s ∙ t) (insert_wider i b p q (omega arith) w))
    (λ t h.
    let j = out_of_range i b p t in
    let k = out_of_range i b q (ap (λ (xs : List Bool). leb i (length xs)) s ∙ t) in
    agree (j.0 ∙ sym k.0) (rw (j.1, k.1) w))
both_orders (removing i) p q w =
    let s = same_marks p q w in
    agree (ap (list_answer (removing i)) (sym s))
    (by_ltb i (length (marks p.tree))
    (λ t h. rw (Serve.after, t, ap (λ (xs : List Bool). ltb i (length xs)) s ∙ t) (remove_wider i p q w))
    (λ t h. rw (Serve.after, t, ap (λ (xs : List Bool). ltb i (length xs)) s ∙ t) w))
both_orders (accessing i) p q w = agree (ap (list_answer (accessing i)) (sym (same_marks p q w))) w
both_orders (ranking end b) p q w = agree (ap (list_answer (ranking end b)) (sym (same_marks p q w))) w
both_orders (selecting k b) p q w = agree (ap (list_answer (selecting k b)) (sym (same_marks p q w))) w
both_orders quiet p q w = agree (ap (list_answer quiet) (sym (same_marks p q w))) w
both_orders unknown p q w = agree refl w

-- the rest follows where they agree
next : (n x y : ℕ) {p q : Pool} {a b : Answer} (es fs : List Entry) → (Wider p q → AgreeOrFull es fs) → Both p q a b
    → AgreeOrFull (record { number = n; second = x; third = y; code = code a; value = value a } ∷ es)
    (record { number = n; second = x; third = y; code = code b; value = value b } ∷ fs)
unfolding code value
next n x y es fs go (agree e v) = inl (ap code e, ap value e, go v)
next n x y es fs go (smaller_full e f) = inr (record { code = ap code e; value = ap value e }, f)

-- any orders
pub wider_answers : (orders : List ℕ) (p q : Pool) → length orders % 3 ≡ 0 → Wider p q
    → AgreeOrFull (log orders (tells orders p)) (log orders (tells orders q))
unfolding log orders_of answers answer_words
wider_answers [] p q h w = tt
wider_answers (n ∷ []) p q h w = absurd (omega arith)
wider_answers (n ∷ x ∷ []) p q h w = absurd (omega arith)
wider_answers (n ∷ x ∷ y ∷ orders) p q h w =
    let o = asks n x y in
    next n x y (log orders (tells orders (after o p))) (log orders (tells orders (after o q)))
    (wider_answers orders (after o p) (after o q) (omega arith)) (both_orders o p q w)

-- any build that both accept, and any orders
pub two_pools : (n m : ℕ) (xs : List Bool) (p q : Pool) (orders : List ℕ) → length orders % 3 ≡ 0 → n ≤ m
    → Pool.build n xs ≡ Some p → Pool.build m xs ≡ Some q → AgreeOrFull (log orders (tells orders p)) (log orders (tells orders q))
two_pools n m xs p q orders whole h e f = wider_answers orders p q whole (build_wider n m xs p q h e f)
