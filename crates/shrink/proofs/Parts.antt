-- Edits of the parts of a fork: a node put at another number, both children edited and then the fork above them, and
-- children's numbers put first in the free chain.
use Prim.Native.Nat.{ℕ, ◌<◌}
use mathlib.Core.Path.{◌≡◌, refl, sym, ap, ◌∙◌}
use mathlib.Core.Bool.{Bool, true, false}
use mathlib.Core.List.Memᴰ
use mathlib.Core.List.{List, [], ◌∷◌, ◌++◌, Memᴰ}
use mathlib.Core.Logic.{◌⊎◌, inl, inr, ⊎_elim}
use Rattle.model.specs.Sound.{Distinct}
use Rattle.model.specs.Tree.{Tree, top, numbers, renumber}
use Rattle.model.proofs.Distincts.{distinct_first, distinct_apart}
use Rattle.model.proofs.Shape.{shape, alike_numbers}
use Rattle.bits.specs.Leaf.{leaf_of}
use Rattle.pool.specs.Layout.{Holds, Chained, Rooted, Edited, first_of, fork_of}
use Rattle.pool.specs.Node.{fork_cell, free_cell, node_at, nodes_in, put, put_node, Put}
use Rattle.pool.specs.declared.node.Fork.{Fork}
use Rattle.pool.specs.declared.node.Node.TheVariants.{Leaf as leaf, Fork as fork, Free as unused}
use Rattle.pool.proofs.Cells.{put_leaf, put_fork, put_free, put_keeps, leaf_says, fork_says}
use Rattle.pool.proofs.Standing.{holds_same, chained_same}
use Rattle.spine.proofs.Edits.{once_left, once_right, top_not_left, top_not_right, not_both}
use Rattle.model.specs.Side.{side}

-- ---- numbers

pub top_in : (t : Tree) → Memᴰ (top t) (numbers t)
unfolding top numbers
top_in (Tree.leaf n xs) = Memᴰ.head refl
top_in (Tree.fork n l r) = Memᴰ.head refl

-- a tree's top is a node of the words
pub top_within : (w : List ℕ) (t : Tree) → Holds w t → top t < nodes_in w
unfolding top
top_within w (Tree.leaf n xs) h = (leaf_says w n (leaf_of xs) h).0
top_within w (Tree.fork n l r) h = (fork_says w n (fork_of l r) h.0).0

-- another number at the top: the rest are those below the top
pub renumbered : (n : ℕ) (u : Tree) → Distinct (numbers u) → (k : ℕ) → Memᴰ k (numbers (renumber n u))
    → (k ≡ n) ⊎ (Memᴰ k (numbers u) × (k ≡ top u → ⊥))
unfolding numbers renumber top
renumbered n (Tree.leaf m xs) d k i = inl (Memᴰ.eq_of_singleton i)
renumbered n (Tree.fork m l r) d k i = ⊎_elim (λ e. inl e) (λ j. inr (Memᴰ.tail j, λ e. d.0 (Memᴰ.cast (sym e) j))) (Memᴰ.cases_cons i)

-- what is of a child, or of the other, is of the fork
module _ (n : ℕ) (l r : Tree) where
  pub in_top : (k : ℕ) → k ≡ n → Memᴰ k (numbers (Tree.fork n l r))
  unfolding numbers
  in_top k e = Memᴰ.head e

  pub in_child : (left : Bool) (k : ℕ) → Memᴰ k (numbers (side left l r)) → Memᴰ k (numbers (Tree.fork n l r))
  unfolding numbers
  in_child true k i = Memᴰ.tail (Memᴰ.append_left (numbers r) i)
  in_child false k i = Memᴰ.tail (Memᴰ.append_right (numbers l) i)

  pub in_other : (left : Bool) (k : ℕ) → Memᴰ k (numbers (side left r l)) → Memᴰ k (numbers (Tree.fork n l r))
  in_other true = in_child false
  in_other false = in_child true

-- each number of a fork stands once: the top's is none of a child's, and the one child's are none of the other's
module _ (n : ℕ) (l r : Tree) (once : Distinct (numbers (Tree.fork n l r))) where
  pub once_child : (left : Bool) → Distinct (numbers (side left l r))
  once_child true = once_left n l r once
  once_child false = once_right n l r once

  pub once_other : (left : Bool) → Distinct (numbers (side left r l))
  once_other true = once_right n l r once
  once_other false = once_left n l r once

  pub top_not_child : (left : Bool) (k : ℕ) → Memᴰ k (numbers (side left l r)) → k ≡ n → ⊥
  top_not_child true = top_not_left n l r once
  top_not_child false = top_not_right n l r once

  pub top_not_other : (left : Bool) (k : ℕ) → Memᴰ k (numbers (side left r l)) → k ≡ n → ⊥
  top_not_other true = top_not_right n l r once
  top_not_other false = top_not_left n l r once

  pub apart : (left : Bool) (k : ℕ) → Memᴰ k (numbers (side left l r)) → Memᴰ k (numbers (side left r l)) → ⊥
  apart true k i j = not_both n l r once k i j
  apart false k i j = not_both n l r once k j i

-- ---- edits

-- an edit is one of more numbers too
pub wider : {w w' ms : List ℕ} {t : Tree} (ns : List ℕ) → Edited w w' ms t → ((k : ℕ) → Memᴰ k ms → Memᴰ k ns) → Edited w w' ns t
wider ns e of = record { size = e.size; holds = e.holds; else = λ k out. e.else k (λ m. out (of k m)) }

-- a tree stands where nothing has changed at its numbers
pub rooted_same : {w w' : List ℕ} {n levels : ℕ} (t : Tree) → ((k : ℕ) → Memᴰ k (numbers t) → node_at w' k ≡ node_at w k)
    → Rooted w n levels t → Rooted w' n levels t
rooted_same {w} {w'} t same h = record { at = h.at; holds = holds_same w w' t same h.holds; deep = h.deep; sized = h.sized }

-- the top of a tree copied to another number
pub moved : {w w' : List ℕ} {n from : ℕ} (u : Tree) → top u ≡ from → Holds w u → n < nodes_in w → ((k : ℕ) → Memᴰ k (numbers u) → k ≡ n → ⊥)
    → w' ≡ put_node w n (node_at w from) → Edited w w' (n ∷ []) (renumber n u)
unfolding top renumber numbers
moved {w} {w'} {n} (Tree.leaf m xs) at h room out e =
    let p : Put w w' n (leaf (leaf_of xs)) = rw (e, ← at, h) (put_leaf w n (leaf_of xs) room) in
    record { size = p.size; holds = p.here; else = λ k o. p.else k (λ same. o (Memᴰ.head same)) }
moved {w} {w'} {n} (Tree.fork m l r) at h room out e =
    let p : Put w w' n (fork (fork_of l r)) = rw (e, ← at, h.0) (put_fork w n (fork_of l r) room) in
    record {
      size = p.size;
      holds = (
        p.here,
        holds_same w w' l (λ k m. p.else k (out k (Memᴰ.tail (Memᴰ.append_left (numbers r) m)))) h.1,
        holds_same w w' r (λ k m. p.else k (out k (Memᴰ.tail (Memᴰ.append_right (numbers l) m)))) h.2,
      );
      else = λ k o. p.else k (λ same. o (Memᴰ.head same));
    }

-- a tree u edited to u', and then its top copied to n
pub merged : {w v w' : List ℕ} {n from : ℕ} (u u' : Tree) → shape u' ≡ shape u → top u' ≡ from → n < nodes_in w
    → ((k : ℕ) → Memᴰ k (numbers u) → k ≡ n → ⊥)
    → Edited w v (numbers u) u' → w' ≡ put_node v n (node_at v from) → Edited w w' (n ∷ numbers u) (renumber n u')
merged {w} {v} {w'} {n} u u' s at room out e z =
    let m = moved u' at e.holds (rw e.size room) (λ k i. out k (rw (alike_numbers u' u s) at i)) z in
    record {
      size = m.size ∙ e.size;
      holds = m.holds;
      else = λ k o. m.else k (λ i. o (Memᴰ.head (Memᴰ.eq_of_singleton i))) ∙ e.else k (λ i. o (Memᴰ.tail i));
    }

-- ---- both children of a fork

held_both : (left : Bool) (w : List ℕ) (child other : Tree) → Holds w child → Holds w other
    → Holds w (side left child other) × Holds w (side left other child)
held_both true w child other h k = (h, k)
held_both false w child other h k = (k, h)

-- the other child is edited first, then the child, and then the fork above them
pub forked : {w u v w' : List ℕ} {g : Fork} (left : Bool) (n : ℕ) (l r child other : Tree) → Distinct (numbers (Tree.fork n l r))
    → shape child ≡ shape (side left l r) → shape other ≡ shape (side left r l) → Edited w u (numbers (side left r l)) other
    → Edited u v (numbers (side left l r)) child → n < nodes_in w → g ≡ fork_of (side left child other) (side left other child)
    → w' ≡ put v n (fork_cell g) → Edited w w' (numbers (Tree.fork n l r)) (Tree.fork n (side left child other) (side left other child))
forked {w} {u} {v} {w'} {g} left n l r child other once a b p q room f z =
    let put_top : Put v w' n (fork g) = rw z (put_fork v n g (rw (q.size, p.size) room)) in
    let of_child : (k : ℕ) → Memᴰ k (numbers child) → Memᴰ k (numbers (side left l r)) =
    λ k i. rw (alike_numbers child (side left l r) a) at i in
    let of_other : (k : ℕ) → Memᴰ k (numbers other) → Memᴰ k (numbers (side left r l)) =
    λ k i. rw (alike_numbers other (side left r l) b) at i in
    let here = holds_same v w' child (λ k i. put_top.else k (top_not_child n l r once left k (of_child k i))) q.holds in
    let there =
    holds_same u w' other
    (λ k i. put_top.else k (top_not_other n l r once left k (of_other k i)) ∙ q.else k (λ j. apart n l r once left k j (of_other k i)))
    p.holds in
    let both = held_both left w' child other here there in
    record {
      size = put_top.size ∙ q.size ∙ p.size;
      holds = (put_top.here ∙ ap fork f, both.0, both.1);
      else =
          λ k out.
          put_top.else k (λ same. out (in_top n l r k same)) ∙ q.else k (λ i. out (in_child n l r left k i))
          ∙ p.else k (λ i. out (in_other n l r left k i));
    }

-- ---- children's numbers put in the free chain

module _ {w v w' : List ℕ} (n head : ℕ) (l r t : Tree) (free : List ℕ)
    (once : Distinct (numbers (Tree.fork n l r) ++ free)) (holds : Holds w (Tree.fork n l r))
    (of : (k : ℕ) → Memᴰ k (numbers t) → (k ≡ top l → ⊥) × (k ≡ top r → ⊥)) (e : Edited w v (numbers (Tree.fork n l r)) t)
    (z : w' ≡ put (put v (top l) (free_cell head)) (top r) (free_cell (top l))) where
  within_fork : Distinct (numbers (Tree.fork n l r))
  within_fork = distinct_first (numbers (Tree.fork n l r)) free once

  two : top l ≡ top r → ⊥
  two same = not_both n l r within_fork (top l) (top_in l) (Memᴰ.cast same (top_in r))

  -- no free number stands in the fork
  free_out : (k : ℕ) → Memᴰ k (numbers (Tree.fork n l r)) → Memᴰ k free → ⊥
  free_out k = distinct_apart (numbers (Tree.fork n l r)) free once k

  abbrev between : List ℕ
  between = put v (top l) (free_cell head)

  first_put : Put v between (top l) (unused head)
  first_put = put_free v (top l) head (rw e.size (top_within w l holds.1))

  second_put : Put between w' (top r) (unused (top l))
  second_put = rw z (put_free between (top r) (top l) (rw (put_keeps first_put) (rw e.size (top_within w r holds.2))))

  past : (k : ℕ) → (k ≡ top l → ⊥) → (k ≡ top r → ⊥) → node_at w' k ≡ node_at v k
  past k a b = second_put.else k b ∙ first_put.else k a

  -- a number that is not the fork's is neither child's top
  beside : (k : ℕ) → (Memᴰ k (numbers (Tree.fork n l r)) → ⊥) → node_at w' k ≡ node_at w k
  beside k out =
      past k (λ same. out (in_child n l r true k (Memᴰ.cast same (top_in l))))
      (λ same. out (in_child n l r false k (Memᴰ.cast same (top_in r)))) ∙ e.else k out

  pub freed_edited : Edited w w' (numbers (Tree.fork n l r) ++ free) t
  freed_edited =
      record {
        size = second_put.size ∙ first_put.size ∙ e.size;
        holds = holds_same v w' t (λ k i. past k (of k i).0 (of k i).1) e.holds;
        else = λ k out. beside k (λ i. out (Memᴰ.append_left free i));
      }

  pub freed_chained : (end : ℕ) → Chained w end free → first_of end free ≡ head → Chained w' end (top r ∷ top l ∷ free)
  unfolding first_of
  freed_chained end c first = (
    second_put.here,
    (second_put.else (top l) two ∙ first_put.here ∙ ap unused (sym first), chained_same w w' end free (λ k i. beside k (λ j. free_out k j i)) c),
  )
