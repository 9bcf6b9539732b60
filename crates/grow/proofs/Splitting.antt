-- A leaf that is put at n, and one that is split there: its halves stand at the first two free numbers, which are none
-- of the other's, nor n.
use Prim.Native.Nat.{ℕ, ◌≤◌, ◌<◌}
use native.Mathlib.Omega.{arith}
use mathlib.Core.Path.{◌≡◌, refl, sym, ap, ◌∙◌}
use mathlib.Core.Bool.{Bool, true}
use mathlib.Core.List.Memᴰ
use mathlib.Core.List.{List, [], ◌∷◌}
use borrow.Author.Tests.{le-leb, lt-leb}
use lib.IntN.{ℤ, pos}
use lib.ListN.{length, take, drop}
use lib.Seq.{take_all, length-take-le}
use Rattle.model.specs.Marks.{count, rank}
use Rattle.model.specs.Sound.{Distinct}
use Rattle.model.specs.Tree.{Tree, top, marks, size, height, numbers}
use Rattle.model.proofs.Cases.{settle_cases}
use Rattle.bits.specs.Leaf.{bits_of, leaf_of, halves_of}
use Rattle.bits.specs.declared.leaf.Leaf.{Leaf}
use Rattle.bits.proofs.Held.{split_held, rank_held}
use Rattle.pool.specs.Layout.{Chained, first_of, fork_of}
use Rattle.pool.specs.Node.{leaf_cell, fork_cell, next_in, node_at, nodes_in, put, Put}
use Rattle.pool.specs.declared.node.Fork.{Fork}
use Rattle.pool.specs.declared.node.Node.TheVariants as Node
use Rattle.pool.proofs.Cells.{put_leaf, put_fork, put_keeps, free_says}
use Rattle.pool.proofs.Standing.{chained_same}
use Rattle.turn.specs.Apart.{Apart}
use Rattle.turn.specs.Sites.{After}
use Rattle.turn.proofs.Differences.{both, none, same, some}
use Rattle.grow.specs.Inserting.{Settled, ToSettle}

-- ---- a leaf that does not split

pub settled : {w w' : List ℕ} {n head : ℕ} {leaf : Leaf} {total : ℕ} (b : ToSettle w n head leaf total) → total < 128
    → w' ≡ put w n (leaf_cell leaf) → Settled b w' head (pos 0)
unfolding numbers height
settled {w} {w'} {n} {head} {leaf} {total} b small e =
    let p : Put w w' n (Node.Leaf leaf) = rw e (put_leaf w n leaf b.there) in
    let same = b.total_is in
    rw (lt-leb 128 total small)
    (settle_cases (λ (t : Tree). After w w' b.end head (pos 0) (Tree.leaf n []) t b.free b.free) n b.marks b.free
    (λ full. absurd (omega arith))
    (λ _. record {
      edited =
          record {
            size = p.size;
            holds = p.here ∙ ap Node.Leaf b.held;
            else = λ k out. p.else k (λ same. out (Memᴰ.head same));
          };
      chained = chained_same w w' b.end b.free (λ k m. p.else k (λ same. b.once.0 (Memᴰ.cast (sym same) m))) b.chained;
      first = b.first;
      change = none 0;
    }))

-- ---- a leaf that splits

module _ {w w₁ w₂ w₃ : List ℕ} {n a b : ℕ} (xs : List Bool) (cs : List ℕ) (once : Distinct (n ∷ a ∷ b ∷ cs))
    (p : Put w w₁ a (Node.Leaf (leaf_of (take 64 xs)))) (q : Put w₁ w₂ b (Node.Leaf (leaf_of (drop 64 xs))))
    (o : Put w₂ w₃ n (Node.Fork (fork_of (Tree.leaf a (take 64 xs)) (Tree.leaf b (drop 64 xs))))) where
  all_else : (k : ℕ) → (k ≡ n → ⊥) → (k ≡ a → ⊥) → (k ≡ b → ⊥) → node_at w₃ k ≡ node_at w k
  all_else k top first second = o.else k top ∙ q.else k second ∙ p.else k first

  -- both halves, and the fork over them
  split_after : (end : ℕ) → Chained w end cs
      → After w w₃ end (first_of end cs) (pos 1) (Tree.leaf n []) (Tree.fork n (Tree.leaf a (take 64 xs)) (Tree.leaf b (drop 64 xs))) (a ∷ b ∷ cs) cs
  unfolding numbers height
  split_after end chained =
      let na : a ≡ n → ⊥ = λ e. once.0 (Memᴰ.head (sym e)) in
      let nb : b ≡ n → ⊥ = λ e. once.0 (Memᴰ.tail (Memᴰ.head (sym e))) in
      let ab : a ≡ b → ⊥ = λ e. once.1.0 (Memᴰ.head e) in
      record {
        edited =
            record {
              size = o.size ∙ q.size ∙ p.size;
              holds = (o.here, o.else a na ∙ q.else a ab ∙ p.here, o.else b nb ∙ q.here);
              else =
                  λ k out.
                  all_else k
                  (λ e. out (Memᴰ.head e))
                  (λ e. out (Memᴰ.tail (Memᴰ.head e)))
                  (λ e. out (Memᴰ.tail (Memᴰ.tail (Memᴰ.head e))));
            };
        chained =
            chained_same w w₃ end cs
            (λ k m.
            all_else k
            (λ e. once.0 (Memᴰ.tail (Memᴰ.tail (Memᴰ.cast (sym e) m))))
            (λ e. once.1.0 (Memᴰ.tail (Memᴰ.cast (sym e) m)))
            (λ e. once.1.1.0 (Memᴰ.cast (sym e) m))) chained;
        first = refl;
        change = same (pos 1) _ _ (some 1) (omega arith);
      }

-- the strikes of the left half
half_strikes : (xs : List Bool) → length xs ≡ 128 → rank true 64 (bits_of (leaf_of (take 64 xs))) ≡ count true (take 64 xs)
unfolding rank
half_strikes xs e =
    let l : length (take 64 xs) ≡ 64 = length-take-le 64 xs (omega arith) in
    rank_held (take 64 xs) true 64 (omega arith) (omega arith) ∙ ap (count true) (take_all 64 (take 64 xs) (omega arith))

-- the fork over the halves
half_fork : (xs : List Bool) (a b : ℕ) (f : Fork) → length xs ≡ 128 → f.left ≡ a → f.right ≡ b → f.left_total ≡ 64
    → f.left_ones ≡ count true (take 64 xs) → f.balance ≡ 2 → f ≡ fork_of (Tree.leaf a (take 64 xs)) (Tree.leaf b (drop 64 xs))
unfolding fork_of top size marks height
half_fork xs a b f e x y z o s i =
    record { left = x i; right = y i; left_total = (z ∙ sym (length-take-le 64 xs (omega arith))) i; left_ones = o i; balance = s i }

-- the chain of a leaf that splits: its first two numbers, and the rest
pub record Two (w : List ℕ) (end head : ℕ) (free : List ℕ) : Type 0 where
  pub second : ℕ
  pub others : List ℕ
  pub is : free ≡ head ∷ second ∷ others
  pub first_free : node_at w head ≡ Node.Free second
  pub second_free : node_at w second ≡ Node.Free (first_of end others)

two : {w : List ℕ} {end head : ℕ} (free : List ℕ) → 2 ≤ length free → Chained w end free → first_of end free ≡ head → Two w end head free
unfolding first_of
two [] h c e = absurd (omega arith)
two (a ∷ []) h c e = absurd (omega arith)
two {w} (a ∷ b ∷ cs) h c e =
    record {
      second = b;
      others = cs;
      is = ap (λ (k : ℕ). k ∷ b ∷ cs) e;
      first_free = ap (node_at w) (sym e) ∙ c.0;
      second_free = c.1.0;
    }

module _ {w : List ℕ} {n head : ℕ} {leaf : Leaf} (t : ToSettle w n head leaf 128) where
  pub split_two : Two w t.end head t.free
  split_two = two t.free (t.room (omega (arith, t.total_is))) t.chained t.first

  -- the number after the first is free too
  pub split_next : {b : ℕ} → b ≡ next_in (nodes_in w) (node_at w head) → (k : ℕ) × (node_at w b ≡ Node.Free k)
  split_next e =
      (_, ap (node_at w) (e ∙ ap (next_in (nodes_in w)) split_two.first_free) ∙ split_two.second_free)

  -- what the steps of the split leave
  pub split_done : {w₁ w₂ w₃ : List ℕ} {b head' : ℕ} {h : Leaf × Leaf} {f : Fork}
      → b ≡ next_in (nodes_in w) (node_at w head) → head' ≡ next_in (nodes_in w) (node_at w b) → h ≡ halves_of (bits_of leaf)
      → w₁ ≡ put w head (leaf_cell h.0) → w₂ ≡ put w₁ b (leaf_cell h.1) → f.left ≡ head → f.right ≡ b
      → f.left_total ≡ 64 → f.left_ones ≡ rank true 64 (bits_of h.0) → Apart (pos 0) f.balance 2
      → w₃ ≡ put w₂ n (fork_cell f) → Settled t w₃ head' (pos 1)
  unfolding halves_of
  split_done {w₁} {w₂} {w₃} {b} {head'} {h} {f} e₁ e₂ he p q fl fr ft fo fb o =
      let k = split_two in
      let xs : List Bool = t.marks in
      let cs : List ℕ = k.others in
      let once : Distinct (n ∷ head ∷ k.second ∷ cs) = rw k.is at t.once in
      let chain : Chained w t.end (head ∷ k.second ∷ cs) = rw k.is at t.chained in
      let next : b ≡ k.second = e₁ ∙ ap (next_in (nodes_in w)) k.first_free in
      let past : head' ≡ first_of t.end cs =
      e₂ ∙ ap (λ (i : ℕ). next_in (nodes_in w) (node_at w i)) next ∙ ap (next_in (nodes_in w)) k.second_free in
      let halves : h ≡ halves_of xs = he ∙ ap (λ (x : Leaf). halves_of (bits_of x)) t.held ∙ split_held xs t.total_is in
      let left : h.0 ≡ leaf_of (take 64 xs) = ap (λ (x : Leaf × Leaf). x.0) halves in
      let right : h.1 ≡ leaf_of (drop 64 xs) = ap (λ (x : Leaf × Leaf). x.1) halves in
      let ones = fo ∙ ap (λ (x : Leaf). rank true 64 (bits_of x)) left ∙ half_strikes xs t.total_is in
      let over : f ≡ fork_of (Tree.leaf head (take 64 xs)) (Tree.leaf k.second (drop 64 xs)) =
      half_fork xs head k.second f t.total_is fl (fr ∙ next) ft ones (omega (arith, both (pos 0) fb (none 2))) in
      let first : Put w w₁ head (Node.Leaf (leaf_of (take 64 xs))) =
      rw (p, left) (put_leaf w head (leaf_of (take 64 xs)) (free_says w head _ k.first_free).0) in
      let second : Put w₁ w₂ k.second (Node.Leaf (leaf_of (drop 64 xs))) =
      rw (q, next, right)
      (put_leaf w₁ k.second (leaf_of (drop 64 xs)) (rw (put_keeps first) (free_says w k.second _ k.second_free).0)) in
      let third : Put w₂ w₃ n (Node.Fork (fork_of (Tree.leaf head (take 64 xs)) (Tree.leaf k.second (drop 64 xs)))) =
      rw (o, ← over) (put_fork w₂ n f (rw (put_keeps second, put_keeps first) t.there)) in
      settle_cases (λ (u : Tree). After w w₃ t.end head' (pos 1) (Tree.leaf n []) u t.free (drop 2 t.free)) n xs t.free
      (λ _. rw (k.is, past) (split_after xs cs once first second third t.end chain.1.1))
      (λ small. absurd (omega (arith, t.total_is)))

-- ---- either

module _ {w : List ℕ} {n head total : ℕ} {leaf : Leaf} (b : ToSettle w n head leaf total) (full : 128 ≤ total) where
  -- a leaf that is too full has 128 marks
  full_total : total ≡ 128
  full_total = omega (arith, b.total_is, b.most)

  pub full_now : ToSettle w n head leaf 128
  full_now =
      record {
        end = b.end;
        marks = b.marks;
        free = b.free;
        held = b.held;
        total_is = b.total_is ∙ full_total;
        most = b.most;
        there = b.there;
        once = b.once;
        chained = b.chained;
        first = b.first;
        room = b.room;
      }

  pub full_split : {w' : List ℕ} {head' : ℕ} {by : ℤ} → Settled full_now w' head' by → Settled b w' head' by
  unfolding full_now
  full_split a = rw (le-leb 128 total full) a
