-- An edit of a child and of the free chain is an edit of the fork above it. The numbers of a fork and of the chain stand once in them, so what is put
-- at a child's numbers and at the chain's leaves the other child; and the fork, once it counts what the child holds now, only leans as before.
use Prim.Native.Nat.{ℕ, suc, ◌-◌, ◌≤◌, ◌<◌, ◌^◌, max}
use native.Mathlib.Omega.{arith}
use mathlib.Core.Path.{◌≡◌, refl, sym, subst, ◌∙◌}
use mathlib.Core.Bool.{Bool, true, false}
use mathlib.Core.List.Memᴰ
use mathlib.Core.List.{List, ◌∷◌, ◌++◌, Memᴰ}
use lib.IntN.{ℤ, pos}
use lib.ListN.{length}
use Rattle.model.specs.Sound.{Balanced, Sized, Distinct, Rearranged}
use Rattle.model.specs.Tree.{Tree, fork, top, size, height, numbers}
use Rattle.model.specs.Turn.{rebalance}
use Rattle.model.proofs.Balance.{rebalance_level}
use Rattle.model.proofs.Distincts.{distinct_first, distinct_second, distinct_apart}
use Rattle.model.proofs.Leaves.{sized_weaken, sized_whole}
use Rattle.model.proofs.Rearranged.{weigh, weigh_append, rearranged_sym, rearranged_member, rearranged_distinct}
use Rattle.bits.specs.Leaf.{leaf_of}
use Rattle.bits.specs.declared.leaf.Leaf.{Leaf}
use Rattle.pool.specs.Layout.{Holds, Chained, Rooted, first_of, fork_of}
use Rattle.pool.specs.Node.{node_at, Put}
use Rattle.pool.specs.declared.node.Fork.{Fork}
use Rattle.pool.specs.declared.node.Node.{Node}
use Rattle.pool.proofs.Standing.{holds_same, chained_same, by_leaf, by_fork, left_rooted, right_rooted}
use Rattle.turn.specs.Apart.{Apart}
use Rattle.model.specs.Side.{side}
use Rattle.turn.specs.Sites.{Site, After, Stale, Leveled, fork_at_heights}
use Rattle.turn.proofs.Differences.{equal, none}
use Rattle.turn.proofs.Read.{fork_size}

-- ---- what was read tells the tree, with the number of its top

module _ {w : List ℕ} {n levels : ℕ} (P : Tree → Type 0) where
  pub by_leaf_at : (t : Tree) (x : Leaf) → Rooted w n levels t → node_at w n ≡ Node.Leaf x
      → ((xs : List Bool) → Rooted w n levels (Tree.leaf n xs) → x ≡ leaf_of xs → P (Tree.leaf n xs)) → P t
  unfolding top
  by_leaf_at t x h e p =
      by_leaf P t x h e
      (λ m xs k s.
      let here = subst (λ (i : ℕ). Rooted w n levels (Tree.leaf i xs)) k.at k in
      subst (λ (i : ℕ). P (Tree.leaf i xs)) (sym k.at) (p xs here s))

  pub by_fork_at : (t : Tree) (f : Fork) → Rooted w n levels t → node_at w n ≡ Node.Fork f
      → ((l r : Tree) → Rooted w n levels (fork n l r) → f ≡ fork_of l r → P (fork n l r)) → P t
  unfolding top
  by_fork_at t f h e p =
      by_fork P t f h e
      (λ m l r k s.
      let here = subst (λ (i : ℕ). Rooted w n levels (fork i l r)) k.at k in
      subst (λ (i : ℕ). P (fork i l r)) (sym k.at) (p l r here s))

-- ---- the numbers of a fork and of the chain

-- the top's, the other child's, and those of the child and of the chain
abbrev opened : ℕ → Tree → Tree → List ℕ → List ℕ
opened n other t free = n ∷ (numbers other ++ (numbers t ++ free))

opens : (left : Bool) (n : ℕ) (l r : Tree) (free : List ℕ) → Rearranged (numbers (fork n l r) ++ free) (opened n (side left r l) (side left l r) free)
unfolding numbers weigh
opens true n l r free w = simp weigh_append (omega arith)
opens false n l r free w = simp weigh_append (omega arith)

module _ (left : Bool) (n : ℕ) (l r : Tree) (free : List ℕ) (once : Distinct (numbers (fork n l r) ++ free)) where
  apart : Distinct (opened n (side left r l) (side left l r) free)
  apart = rearranged_distinct _ _ (opens left n l r free) once

  -- the top is neither of the child nor of the chain
  pub top_apart : Memᴰ n (numbers (side left l r) ++ free) → ⊥
  top_apart m = apart.0 (Memᴰ.append_right (numbers (side left r l)) m)

  -- nor is a number of the other child, and that is not the top's
  other_apart : (k : ℕ) → Memᴰ k (numbers (side left r l)) → Memᴰ k (numbers (side left l r) ++ free) → ⊥
  other_apart k = distinct_apart (numbers (side left r l)) (numbers (side left l r) ++ free) apart.1 k

  other_below : (k : ℕ) → Memᴰ k (numbers (side left r l)) → k ≡ n → ⊥
  other_below k m e = apart.0 (Memᴰ.append_left (numbers (side left l r) ++ free) (Memᴰ.cast (sym e) m))

  pub child_once : Distinct (numbers (side left l r) ++ free)
  child_once = distinct_second (numbers (side left r l)) (numbers (side left l r) ++ free) apart.1

  -- what is of the child or of the chain is of the fork or of the chain
  pub child_member : (k : ℕ) → Memᴰ k (numbers (side left l r) ++ free) → Memᴰ k (numbers (fork n l r) ++ free)
  child_member k m =
      rearranged_member k _ _ (rearranged_sym _ _ (opens left n l r free)) (Memᴰ.tail (Memᴰ.append_right (numbers (side left r l)) m))

-- ---- the child's site

sited : {w v : List ℕ} {n levels end head : ℕ} (t : Tree) (free : List ℕ) → Rooted w n levels t → Balanced t → Sized 1 t
    → Distinct (numbers t ++ free) → Chained w end free → first_of end free ≡ head → suc (size t) < 2 ^ 32
    → ((k : ℕ) → Memᴰ k (numbers t ++ free) → node_at v k ≡ node_at w k)
    → Site v n levels end head t free
sited {w} {v} {end = end} t free h b s once c first few same =
    record {
      rooted =
          record { at = h.at; holds = holds_same w v t (λ k m. same k (Memᴰ.append_left free m)) h.holds; deep = h.deep; sized = h.sized };
      balanced = b;
      whole = sized_whole t s;
      once = once;
      chained = chained_same w v end free (λ k m. same k (Memᴰ.append_right (numbers t) m)) c;
      first = first;
      few = few;
    }

-- in words that are the same at the numbers of the child and of the chain
pub site_child : {w v : List ℕ} {n levels end head : ℕ} (left : Bool) (l r : Tree) (free : List ℕ) → Site w n levels end head (fork n l r) free
    → ((k : ℕ) → Memᴰ k (numbers (side left l r) ++ free) → node_at v k ≡ node_at w k)
    → Site v (top (side left l r)) (levels - 1) end head (side left l r) free
site_child {n = n} true l r free s same =
    sited l free (left_rooted n l r s.rooted) s.balanced.0 (sized_weaken 1 33 l (omega arith) s.whole.0)
    (child_once true n l r free s.once) s.chained s.first (omega (arith, s.few, fork_size n l r)) same
site_child {n = n} false l r free s same =
    sited r free (right_rooted n l r s.rooted) s.balanced.1 s.whole.1
    (child_once false n l r free s.once) s.chained s.first (omega (arith, s.few, fork_size n l r)) same

-- where another node has been put at the top
pub site_below : {w v : List ℕ} {n levels end head : ℕ} {x : Node} (left : Bool) (l r : Tree) (free : List ℕ)
    → Site w n levels end head (fork n l r) free → Put w v n x → Site v (top (side left l r)) (levels - 1) end head (side left l r) free
site_below {n = n} left l r free s p =
    site_child left l r free s (λ k m. p.else k (λ e. top_apart left n l r free s.once (Memᴰ.cast (sym e) m)))

-- ---- what an edit of the child leaves

-- What an edit makes of a balanced tree and of the chain, wherever they stand: another balanced tree, by a level higher or lower at the most, by a
-- mark larger at the most, and of the numbers of both.
pub record Altered (t t' : Tree) (free free' : List ℕ) : Type 0 where
  pub balanced : Balanced t'
  pub rose : height t' ≤ suc (height t)
  pub fell : height t ≤ suc (height t')
  pub larger : size t' ≤ suc (size t)
  pub numbers_are : Rearranged (numbers t ++ free) (numbers t' ++ free')

-- what `After` says of a child, but for the node n above it, which may be another
pub record Around (w v : List ℕ) (n end head : ℕ) (by : ℤ) (t t' : Tree) (free free' : List ℕ) : Type 0 where
  pub size : length v ≡ length w
  pub holds : Holds v t'
  pub else : (k : ℕ) → (k ≡ n → ⊥) → (Memᴰ k (numbers t ++ free) → ⊥) → node_at v k ≡ node_at w k
  pub chained : Chained v end free'
  pub first : first_of end free' ≡ head
  pub change : Apart by (height t') (height t)

module _ {w u v : List ℕ} {n end head : ℕ} {by : ℤ} {x : Node} {t t' : Tree} {free free' : List ℕ} where
  -- the node above was put first
  pub around_first : Put w u n x → After u v end head by t t' free free' → Around w v n end head by t t' free free'
  around_first p a =
      record {
        size = a.edited.size ∙ p.size;
        holds = a.edited.holds;
        else = λ k ne out. a.edited.else k out ∙ p.else k ne;
        chained = a.chained;
        first = a.first;
        change = a.change;
      }

  pub first_stays : Put w u n x → After u v end head by t t' free free' → (Memᴰ n (numbers t ++ free) → ⊥) → node_at v n ≡ x
  first_stays p a out = a.edited.else n out ∙ p.here

  -- the node above was put last
  pub around_last : After w u end head by t t' free free' → Put u v n x → (Memᴰ n (numbers t' ++ free') → ⊥)
      → Around w v n end head by t t' free free'
  around_last a p out =
      let past : (k : ℕ) → Memᴰ k (numbers t' ++ free') → node_at v k ≡ node_at u k = λ k m. p.else k (λ e. out (Memᴰ.cast (sym e) m)) in
      record {
        size = p.size ∙ a.edited.size;
        holds = holds_same u v t' (λ k m. past k (Memᴰ.append_left free' m)) a.edited.holds;
        else = λ k ne far. p.else k ne ∙ a.edited.else k far;
        chained = chained_same u v end free' (λ k m. past k (Memᴰ.append_right (numbers t') m)) a.chained;
        first = a.first;
        change = a.change;
      }

-- ---- the fork above, with t in the child's place

abbrev with : Bool → ℕ → Tree → Tree → Tree → Tree
with left n l r t = fork n (side left t l) (side left r t)

-- the numbers are rearranged in the fork as they are in the child
pub fork_rearranged : (left : Bool) (n : ℕ) (l r t : Tree) (free free' : List ℕ) → Rearranged (numbers (side left l r) ++ free) (numbers t ++ free')
    → Rearranged (numbers (fork n l r) ++ free) (numbers (with left n l r t) ++ free')
unfolding numbers weigh
fork_rearranged true n l r t free free' same w = let e = simp weigh_append at (same w) in simp weigh_append (omega arith)
fork_rearranged false n l r t free free' same w = let e = simp weigh_append at (same w) in simp weigh_append (omega arith)

-- the top stands neither in the new child nor in what is left of the chain
pub top_past : (left : Bool) (n : ℕ) (l r t : Tree) (free free' : List ℕ) → Distinct (numbers (fork n l r) ++ free)
    → Rearranged (numbers (side left l r) ++ free) (numbers t ++ free') → Memᴰ n (numbers t ++ free') → ⊥
top_past left n l r t free free' once same m =
    top_apart left n l r free once (rearranged_member n _ _ (rearranged_sym (numbers (side left l r) ++ free) (numbers t ++ free') same) m)

-- the other child stands where the fork does
other_held : (w : List ℕ) (left : Bool) (n : ℕ) (l r : Tree) → Holds w (fork n l r) → Holds w (side left r l)
other_held w true n l r h = h.2
other_held w false n l r h = h.1

staled : {v : List ℕ} {n : ℕ} (left : Bool) (l r t : Tree)
    → node_at v n ≡ Node.Fork (fork_at_heights (height l) (height r) (side left t l) (side left r t)) → Holds v t → Holds v (side left r l)
    → Distinct (numbers (with left n l r t)) → suc (size (fork n l r)) < 2 ^ 32 → size t ≤ suc (size (side left l r))
    → Balanced (fork n l r) → Balanced t → height t ≤ suc (height (side left l r)) → height (side left l r) ≤ suc (height t)
    → Stale v n left (height (side left l r)) (side left t l) (side left r t)
staled {n = n} true l r t says here there once few more b b' rose fell =
    record {
      says = says;
      left_holds = here;
      right_holds = there;
      once = once;
      few = omega (arith, fork_size n l r);
      left_balanced = b';
      right_balanced = b.1;
      before_left = b.2;
      before_right = b.3;
      rose = rose;
      fell = fell;
    }
staled {n = n} false l r t says here there once few more b b' rose fell =
    record {
      says = says;
      left_holds = there;
      right_holds = here;
      once = once;
      few = omega (arith, fork_size n l r);
      left_balanced = b.0;
      right_balanced = b';
      before_left = b.3;
      before_right = b.2;
      rose = rose;
      fell = fell;
    }

-- the height before
height_before : (left : Bool) (n : ℕ) (l r t : Tree)
    → suc (max (height (side left l r)) (height (side left (side left r t) (side left t l)))) ≡ height (fork n l r)
unfolding height
height_before true n l r t = refl
height_before false n l r t = omega arith

-- a child that has kept its height leaves the fork as it leans
fork_level : (v : List ℕ) (n : ℕ) (left : Bool) (l r t : Tree) → height t ≡ height (side left l r)
    → node_at v n ≡ Node.Fork (fork_at_heights (height l) (height r) (side left t l) (side left r t)) → Holds v t → Holds v (side left r l)
    → Holds v (with left n l r t)
unfolding fork_of
fork_level v n true l r t e says here there = (rw e says, here, there)
fork_level v n false l r t e says here there = (rw e says, there, here)

stays_level : (left : Bool) (n : ℕ) (l r t : Tree) → height t ≡ height (side left l r) → Balanced (fork n l r)
    → (rebalance n (side left t l) (side left r t) ≡ with left n l r t) × (height (with left n l r t) ≡ height (fork n l r))
unfolding height
stays_level true n l r t e b = (rebalance_level n t r (omega arith) (omega arith), rw e)
stays_level false n l r t e b = (rebalance_level n l t (omega arith) (omega arith), rw e)

module _ {w v : List ℕ} {n levels end head head' : ℕ} {by : ℤ} (left : Bool) (l r t : Tree) (free free' : List ℕ)
    (s : Site w n levels end head (fork n l r) free) (k : Altered (side left l r) t free free')
    (a : Around w v n end head' by (side left l r) t free free') where
  once_again : Distinct (numbers (with left n l r t) ++ free')
  once_again = rearranged_distinct _ _ (fork_rearranged left n l r t free free' k.numbers_are) s.once

  other_same : (j : ℕ) → Memᴰ j (numbers (side left r l)) → node_at v j ≡ node_at w j
  other_same j m = a.else j (other_below left n l r free s.once j m) (other_apart left n l r free s.once j m)

  there : Holds v (side left r l)
  there = holds_same w v (side left r l) other_same (other_held w left n l r s.rooted.holds)

  -- a number that stands neither in the fork nor in the chain stands in neither afterwards
  stays_out : (j : ℕ) → (Memᴰ j (numbers (fork n l r) ++ free) → ⊥) → Memᴰ j (numbers (with left n l r t)) → ⊥
  stays_out j out m =
      out (rearranged_member j _ _ (rearranged_sym _ _ (fork_rearranged left n l r t free free' k.numbers_are)) (Memᴰ.append_left free' m))

  far_same : (j : ℕ) → (Memᴰ j (numbers (fork n l r) ++ free) → ⊥) → node_at v j ≡ node_at w j
  unfolding numbers
  far_same j out = a.else j (λ e. out (Memᴰ.head e)) (λ m. out (child_member left n l r free s.once j m))

  module _ (says : node_at v n ≡ Node.Fork (fork_at_heights (height l) (height r) (side left t l) (side left r t))) where
    -- the fork says all but the new balance
    pub stale : Stale v n left (height (side left l r)) (side left t l) (side left r t)
    stale =
        staled left l r t says a.holds there (distinct_first (numbers (with left n l r t)) free' once_again)
        s.few k.larger s.balanced k.balanced k.rose k.fell

    -- balanced again, it is what the edit of the fork leaves
    pub after_leveled : {u : List ℕ} {grown : ℤ} → Leveled v u n left (height (side left l r)) (side left t l) (side left r t) grown
        → After w u end head' grown (fork n l r) (rebalance n (side left t l) (side left r t)) free free'
    after_leveled {u} {grown} e =
        record {
          edited =
              record {
                size = e.edited.size ∙ a.size;
                holds = e.edited.holds;
                else = λ j out. e.edited.else j (stays_out j out) ∙ far_same j out;
              };
          chained =
              chained_same v u end free'
              (λ j m. e.edited.else j (λ m'. distinct_apart (numbers (with left n l r t)) free' once_again j m' m)) a.chained;
          first = a.first;
          change = equal grown _ _ e.change refl (height_before left n l r t);
        }

    -- so it is where the child has kept its height
    pub after_level : height t ≡ height (side left l r)
        → After w v end head' (pos 0) (fork n l r) (rebalance n (side left t l) (side left r t)) free free'
    after_level e =
        let z = stays_level left n l r t e s.balanced in
        rw z.0
        (record {
          edited = record { size = a.size; holds = fork_level v n left l r t e says a.holds there; else = far_same };
          chained = a.chained;
          first = a.first;
          change = equal (pos 0) _ _ (none (height (fork n l r))) (sym z.1) refl;
        })
