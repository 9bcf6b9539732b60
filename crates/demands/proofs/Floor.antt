-- Demand 3, the floor. For a user: however a window was built and whatever was ordered since, over any number of runs, a pool of N nodes answers no
-- insert Full below so many marks: 127 where there is room for one leaf, else 33 for each leaf that the nodes allow, and 62. For the 1,023 nodes of a
-- window these are 16,958.
use Prim.Native.Nat.{ℕ, ◌≤◌}
use native.Mathlib.Omega.{arith}
use mathlib.Core.Path.{◌≡◌, sym, ap, ◌∙◌}
use mathlib.Core.Bool.{Bool}
use mathlib.Core.List.{List, [], ◌∷◌, map}
use Rattle.std.specs.Prelude.{Some, Err}
use lib.ListN.{length}
use borrow.Author.Tests.{le-leb, lt-ltb}
use Rattle.model.specs.Limits.{least_full}
use Rattle.model.specs.Pool as Pool
use Rattle.model.specs.Pool.{Pool}
use Rattle.model.specs.Sharp.{Becomes, Change, out, put}
use Rattle.model.specs.Sound.{Sound}
use Rattle.model.specs.Tree.{marks}
use Rattle.model.proofs.Content.{size_marks}
use Rattle.model.proofs.Floor.{floor, means_full}
use Rattle.model.proofs.Sharp.{floor_reached}
use Rattle.serve.specs.Orders as Serve
use Rattle.order.specs.Asked.{Asked, inserting, removing}
use Rattle.run.specs.Orders.{after, after_all, answer}
use Rattle.order.specs.declared.answer.Refusal.TheVariants.{Full}
use Rattle.demands.proofs.Refusals.{full_if, full_only_if}

-- any order that a sound pool answers Full
pub full_above_floor : (n : ℕ) (o : Asked) (p : Pool) → Sound n p → answer o p ≡ Err Full → least_full n ≤ length (marks p.tree)
full_above_floor n o p s e =
    let k = full_only_if n o p s e in
    let f = floor n k.0 p s (means_full k.0 p k.3.leaf_full k.3.few_free) in
    let m = size_marks p.tree in
    omega arith

-- ---- no greater number would do

-- the orders that ask for some edits
order_of : Change → Asked
order_of (put i b) = inserting i b
order_of (out i) = removing i

becomes_after : (cs : List Change) (p q : Pool) → Becomes cs p q → after_all (map order_of cs) p ≡ q
unfolding after_all Serve.after order_of
becomes_after [] p q e = e
becomes_after (put i b ∷ cs) p q d =
    let m = size_marks p.tree in
    let next : after (inserting i b) p ≡ d.1 = rw (Serve.after, le-leb i (length (marks p.tree)) (omega (arith, d.0)), d.2) in
    ap (after_all (map order_of cs)) next ∙ becomes_after cs d.1 q d.3
becomes_after (out i ∷ cs) p q d =
    let m = size_marks p.tree in
    let next : after (removing i) p ≡ Pool.remove i p = rw (Serve.after, lt-ltb i (length (marks p.tree)) (omega (arith, d.0))) in
    ap (after_all (map order_of cs)) next ∙ becomes_after cs (Pool.remove i p) q d.1

-- a build and orders lead to a pool that holds just so many marks and has no room
pub sharp : (n : ℕ) → 1 ≤ n
    → (xs : List Bool) × (p : Pool) × (os : List Asked) × (i : ℕ) × (Pool.build n xs ≡ Some p) × Sound n (after_all os p)
    × (length (marks (after_all os p).tree) ≡ least_full n) × ((b : Bool) → answer (inserting i b) (after_all os p) ≡ Err Full)
sharp n least =
    let k = floor_reached n least in
    let q = k.pool in
    let s = k.sharp in
    let m = size_marks q.tree in
    let e = becomes_after k.changes k.built q k.becomes in (
      k.given,
      k.built,
      map order_of k.changes,
      k.place,
      k.builds,
      rw e s.sound,
      rw e (sym m ∙ s.held),
      λ b. rw e (full_if k.place b q (record { in_range = omega (arith, s.within); leaf_full = s.leaf_full; few_free = s.few_free })),
    )
