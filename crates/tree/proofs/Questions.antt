-- The questions along a path: what is known of the subtree that a walk stands on, and how a step keeps it.
use Prim.Native.Nat.{ℕ, ◌+◌, ◌-◌, ◌/◌, ◌%◌, ◌^◌, ◌≤◌, ◌<◌}
use native.Mathlib.Nat.{add-zero, sub-zero, zero-add}
use native.Mathlib.Omega.{arith}
use borrow.Author.Tests.{lt-ltb, le-ltb}
use mathlib.Core.Path.{◌≡◌, refl, sym, ap, ◌∙◌}
use mathlib.Core.Bool.{Bool, true, false}
use mathlib.Core.List.{List}
use Rattle.std.specs.Prelude.{Option, None, Some}
use lib.ListN.{length, take, replicate, length-take}
use Rattle.model.specs.Edit.{leaf_at}
use Rattle.model.specs.Marks.{access, count, further, rank, select, wanted}
use Rattle.model.specs.Tree.{Tree, marks, size}
use Rattle.model.specs.Word.{odd}
use Rattle.model.proofs.Cases.{by_test, by_ltb}
use Rattle.model.proofs.Content.{size_marks}
use Rattle.model.proofs.Counting.{count_append, count_both, further_zero, further_further, select_in_second, select_none, select_some, select_below, ones_le, wanted_length}
use Rattle.model.proofs.Paths.{access_left, access_right, rank_left, rank_right, select_left, select_right, count_size}
use Rattle.bits.specs.Choice.{Picked}
use Rattle.bits.specs.Leaf.{leaf_of, bits_of}
use Rattle.bits.specs.declared.leaf.Leaf.{Leaf}
use Rattle.bits.proofs.Held.{held_bits, rank_held, select_held}
use Rattle.bits.proofs.TwoWords.{bit_low, bit_high, both_length}
use Rattle.pool.specs.Layout.{fork_of}
use Rattle.pool.specs.declared.node.Fork.{Fork}
use Rattle.tree.specs.Query.{Near, Spotted, found_at, of_kind}
use Rattle.tree.specs.Stepping.{step_left, step_right}
use Rattle.tree.specs.declared.query.Spot.{Spot}
use Rattle.tree.specs.declared.steps.Step.{Step}
use Rattle.tree.proofs.Down.{On, OnFork, down_left, down_right}

-- ---- where a place leads

leaf_left : (i m : ℕ) (l r : Tree) → i < size l → leaf_at i (Tree.fork m l r) ≡ leaf_at i l
unfolding leaf_at
leaf_left i m l r h = rw (leaf_at, lt-ltb i (size l) h)

leaf_right : (i m : ℕ) (l r : Tree) → size l ≤ i → leaf_at i (Tree.fork m l r) ≡ leaf_at (i - size l) r
unfolding leaf_at
leaf_right i m l r h = rw (leaf_at, le-ltb i (size l) h)

-- A walk to a place of the tree t₀ stands on a subtree of len marks, at a place of it, with so many strikes before the subtree.
pub record Reaching (t₀ : Tree) (place len at sum : ℕ) (t : Tree) : Type 0 where
  pub total : size t ≡ len
  pub within : at ≤ size t
  pub leaf : leaf_at at t ≡ leaf_at place t₀
  pub mark : access at (marks t) ≡ access place (marks t₀)
  pub strikes : sum + rank true at (marks t) ≡ rank true place (marks t₀)

pub reach_begin : (t : Tree) (place len : ℕ) → size t ≡ len → place ≤ len → Reaching t place len place 0 t
reach_begin t place len e h = record { total = e; within = omega arith; leaf = refl; mark = refl; strikes = zero-add (rank true place (marks t)) }

module _ {t₀ : Tree} {place len at sum : ℕ} where
  -- at a leaf the walk has come to the spot
  pub reach_here : (m : ℕ) (xs : List Bool) (x : Leaf) → x ≡ leaf_of xs → length xs ≤ 127 → Reaching t₀ place len at sum (Tree.leaf m xs)
      → Spotted t₀ place (record { leaf = x; length = len; at = at; ones = sum })
  unfolding leaf_at size marks
  reach_here m xs x e h p = record {
    leaf = e ∙ ap leaf_of p.leaf;
    total = sym p.total ∙ ap length p.leaf;
    small = rw p.leaf at h;
    within = rw (← p.leaf) p.within;
    mark = rw (← p.leaf) p.mark;
    strikes = rw (← p.leaf) p.strikes;
  }

  module _ (m : ℕ) (l r : Tree) (f : Fork) (e : f ≡ fork_of l r) (p : Reaching t₀ place len at sum (Tree.fork m l r)) where
    pub reach_first : at < f.left_total → Reaching t₀ place f.left_total at (sum + 0) l
    unfolding size marks fork_of
    reach_first h =
        let k : at < size l = rw e at h in
        let k' : at ≤ size l = omega arith in
        record {
          total = rw e;
          within = k';
          leaf = sym (leaf_left at m l r k) ∙ p.leaf;
          mark = sym (access_left l r at k) ∙ p.mark;
          strikes = omega (arith, p.strikes, rank_left l r true at k');
        }

    pub reach_second : f.left_total ≤ at → Reaching t₀ place (len - f.left_total) (at - f.left_total) (sum + f.left_ones) r
    unfolding size marks fork_of
    reach_second h =
        let k : size l ≤ at = rw e at h in
        rw e (record {
          total = omega (arith, p.total);
          within = omega (arith, p.within);
          leaf = sym (leaf_right at m l r k) ∙ p.leaf;
          mark = sym (access_right l r at k) ∙ p.mark;
          strikes = omega (arith, p.strikes, rank_right l r true at k);
        })

    -- a subtree is not larger than the tree
    pub reach_total : f.left_total ≤ len
    unfolding size fork_of
    reach_total = rw e (omega (arith, p.total))

-- A step of the walk, to the child that the place leads to.
pub reach_step : {w : List ℕ} {n levels : ℕ} {t₀ : Tree} {place len at sum more : ℕ} {f : Fork}
    (o : OnFork w n levels (Reaching t₀ place len at sum) f) (s : Step)
    → (at < f.left_total → s ≡ step_left f at) → (f.left_total ≤ at → s ≡ step_right f len at)
    → Picked s.left 0 f.left_ones more → On w s.child.node (levels - 1) (Reaching t₀ place s.child.length s.index (sum + more))
reach_step {at = at} {f = f} o s left right x =
    by_ltb at f.left_total
    (λ _ h. rw (x.one (ap (λ (u : Step). u.left) (left h)), left h) (down_left o _ (λ m l r q p. reach_first m l r f q p h)))
    (λ _ h. rw (x.other (ap (λ (u : Step). u.left) (right h)), right h) (down_right o _ (λ m l r q p. reach_second m l r f q p h)))

-- where a place lies tells the strikes before it: those before the leaf, and those before it in the leaf
pub counted : {t : Tree} {place n : ℕ} {s : Spot} → Spotted t place s → n ≡ rank true s.at (bits_of s.leaf)
    → s.ones + n ≡ rank true place (marks t)
counted {s = s} q e =
    ap (λ (n : ℕ). s.ones + n)
    (e ∙ ap (λ (x : Leaf). rank true s.at (bits_of x)) q.leaf ∙ rank_held _ true s.at (omega (arith, q.small)) q.within)
    ∙ q.strikes

-- the bit of a leaf at a place, in the word that holds it
pub bit_picked : (x : Leaf) (i : ℕ) {first : Bool} {word : ℕ} → Picked first x.low x.high word
    → (first ≡ true → i < 64) → (first ≡ false → 64 ≤ i) → i < 128 → odd (word / 2 ^ (i % 64)) ≡ access i (bits_of x)
unfolding bits_of
bit_picked x i {first} p passed failed h =
    by_test first
    (λ t. let l = passed t in let k : i % 64 ≡ i = omega arith in rw (p.one t, k) (bit_low x i l))
    (λ t. let l = failed t in let k : i % 64 ≡ i - 64 = omega arith in rw (p.other t, k) (bit_high x i l h))

-- there are no more marks of a kind than marks
pub rank_most : (t : Tree) (b : Bool) (end : ℕ) → rank b end (marks t) ≤ size t
unfolding rank count
rank_most t b end =
    let xs : List Bool = take end (marks t) in
    omega (arith, ones_le (wanted b xs), wanted_length b xs, length-take end (marks t), size_marks t)

-- ---- select

-- A walk to the k-th mark of a kind in the tree t₀: it is the one after `skip` of its kind in the subtree, before which
-- so many marks stand. Where the subtree has too few, the tree ends with it.
pub record Selecting (t₀ : Tree) (b : Bool) (k skip before : ℕ) (t : Tree) : Type 0 where
  pub less : skip < k
  pub place : further before (select b (skip + 1) (marks t)) ≡ select b k (marks t₀)
  pub room : before + size t ≤ size t₀
  pub last : count b (marks t) ≤ skip → before + size t ≡ size t₀

pub select_begin : (t : Tree) (b : Bool) (k : ℕ) → 1 ≤ k → Selecting t b k (k - 1) 0 t
select_begin t b k h =
    let whole : k - 1 + 1 ≡ k = omega arith in
    record {
      less = omega arith;
      place = further_zero (select b (k - 1 + 1) (marks t)) ∙ ap (λ (j : ℕ). select b j (marks t)) whole;
      room = omega arith;
      last = λ _. zero-add (size t);
    }

-- how many marks of a kind the left child holds, from what its fork says
pub kind_count : (b : Bool) (t : Tree) → of_kind b (size t) (count true (marks t)) ≡ count b (marks t)
kind_count true t = refl
kind_count false t = omega (arith, count_size t)

-- no more strikes stand before a place than marks
pub rank_within : (t : Tree) (end : ℕ) → rank true end (marks t) ≤ end
unfolding rank
rank_within t end = omega (arith, count_both (take end (marks t)), length-take end (marks t))

-- how many of a kind stand before a place, from the strikes before it
pub kind_rank : (t : Tree) (b : Bool) (end : ℕ) → end ≤ size t → of_kind b end (rank true end (marks t)) ≡ rank b end (marks t)
unfolding rank
kind_rank t true end h = refl
kind_rank t false end h = omega (arith, count_both (take end (marks t)), length-take end (marks t), size_marks t)

-- a place before the end is told, counted from the beginning
found_in : (before total p : ℕ) → before + p < total → found_at before total (Some p) ≡ Some (before + p)
found_in before total p h = rw (found_at, lt-ltb (before + p) total h)

-- a place past the end is none
found_past : (before total n : ℕ) (o : Option ℕ) → before + n ≡ total → found_at before total (further n o) ≡ None
unfolding further
found_past before total n None h = refl
found_past before total n (Some q) h = rw (found_at, le-ltb (before + (n + q)) total (omega arith))

near_of : (before : ℕ) (o : Option ℕ) → ((p : ℕ) → o ≡ Some p → before + p < 2 ^ 64) → Near before o
near_of before None f = tt
near_of before (Some p) f = f p refl

module _ {t₀ : Tree} {b : Bool} {k skip before : ℕ} where
  -- in a leaf the mark is found, or the leaf is the last and has too few
  module _ (m : ℕ) (xs : List Bool) (x : Leaf) (e : x ≡ leaf_of xs) (h : length xs ≤ 127)
      (p : Selecting t₀ b k skip before (Tree.leaf m xs)) (r : Option ℕ) (a : r ≡ select b (skip + 1) (bits_of x)) where
    pub select_near : size t₀ + 128 < 2 ^ 64 → Near before r
    unfolding bits_of size
    select_near l =
        let size = both_length x in
        rw a (near_of before (select b (skip + 1) (bits_of x)) (λ q f. omega (arith, select_below b (skip + 1) (bits_of x) q f, p.room)))

    -- the answer on the leaf's marks, and on the zeros past them
    held : r ≡ select b (skip + 1) (bits_of (leaf_of xs))
    held = a ∙ ap (λ (y : Leaf). select b (skip + 1) (bits_of y)) e

    pub select_here : (total : ℕ) → size t₀ ≡ total → found_at before total r ≡ select b k (marks t₀)
    unfolding marks size further
    select_here total z = by_ltb skip (count b xs) (λ _ l. found l) (λ _ l. few l)
      where
        found : skip < count b xs → found_at before total r ≡ select b k (marks t₀)
        found l =
            let q = select_some b (skip + 1) xs (omega arith) (omega arith) in
            ap (found_at before total) (held ∙ (select_held xs b (skip + 1) (omega arith) (omega arith) ∙ q.1))
            ∙ found_in before total q.0 (omega (arith, select_below b (skip + 1) xs q.0 q.1, p.room))
            ∙ ap (further before) (sym q.1) ∙ p.place

        few : count b xs ≤ skip → found_at before total r ≡ select b k (marks t₀)
        few l =
            let zeros : List Bool = replicate (128 - length xs) false in
            let past = ap (select b (skip + 1)) (held_bits xs (omega arith)) ∙ select_in_second b (skip + 1) xs zeros (omega arith) in
            ap (found_at before total) (held ∙ past)
            ∙ found_past before total (length xs) (select b (skip + 1 - count b xs) zeros) (p.last l ∙ z)
            ∙ ap (further before) (sym (select_none b (skip + 1) xs (omega arith))) ∙ p.place

  module _ (m : ℕ) (l r : Tree) (f : Fork) (e : f ≡ fork_of l r) (p : Selecting t₀ b k skip before (Tree.fork m l r)) where
    pub select_first : skip < of_kind b f.left_total f.left_ones → Selecting t₀ b k (skip - 0) (before + 0) l
    unfolding size marks fork_of
    select_first h =
        let n : skip < count b (marks l) = rw (kind_count b l) at (rw e at h) in
        rw (sub-zero skip, add-zero before) (record {
          less = p.less;
          place = ap (further before) (sym (select_left l r b (skip + 1) (omega arith))) ∙ p.place;
          room = omega (arith, p.room);
          last = λ c. absurd (omega arith);
        })

    pub select_second : of_kind b f.left_total f.left_ones ≤ skip
        → Selecting t₀ b k (skip - of_kind b f.left_total f.left_ones) (before + f.left_total) r
    unfolding size marks fork_of
    select_second h =
        let n : count b (marks l) ≤ skip = rw (kind_count b l) at (rw e at h) in
        let left : skip + 1 - count b (marks l) ≡ skip - count b (marks l) + 1 = omega arith in
        rw (e, kind_count b l) (record {
          less = omega (arith, p.less);
          place =
              sym (further_further before (size l) _)
              ∙ ap (λ (j : ℕ). further before (further (size l) (select b j (marks r)))) (sym left)
              ∙ ap (further before) (sym (select_right l r b (skip + 1) (omega arith))) ∙ p.place;
          room = omega (arith, p.room);
          last = λ c. let whole = p.last (omega (arith, count_append b (marks l) (marks r))) in omega arith;
        })

    -- a left child has no more strikes than marks, and the marks before the right one can be counted
    pub select_strikes : f.left_ones ≤ f.left_total
    unfolding fork_of
    select_strikes = rw e (omega (arith, count_size l))

    pub select_before : before + f.left_total ≤ size t₀
    unfolding size fork_of
    select_before = rw e (omega (arith, p.room))

-- A step of the walk, to the child that has the mark, where a test tells which.
pub select_step : {w : List ℕ} {n levels : ℕ} {t₀ : Tree} {b : Bool} {k skip before : ℕ} {f : Fork}
    (o : OnFork w n levels (Selecting t₀ b k skip before) f) {first : Bool} {here child total less : ℕ}
    → here ≡ of_kind b f.left_total f.left_ones
    → Picked first f.left f.right child → Picked first 0 f.left_total total → Picked first 0 here less
    → (first ≡ true → skip < here) → (first ≡ false → here ≤ skip) → On w child (levels - 1) (Selecting t₀ b k (skip - less) (before + total))
select_step {f = f} o {first} z x y v passed failed =
    by_test first
    (λ t. rw (x.one t, y.one t, v.one t) (down_left o _ (λ m l r q p. select_first m l r f q p (rw z at (passed t)))))
    (λ t. rw (x.other t, y.other t, v.other t, z) (down_right o _ (λ m l r q p. select_second m l r f q p (rw z at (failed t)))))
