-- An edit of a part of a tree is an edit of the tree. The numbers of a tree stand once in it, so what is put at a child's numbers leaves the top and
-- the other child; and where the child keeps its shape, only the totals of a left child change in the fork above it.
use Prim.Native.Nat.{ℕ, ◌+◌, ◌-◌}
use native.Mathlib.Omega.{arith}
use mathlib.Core.Path.{◌≡◌, refl, sym, ap, ◌∙◌}
use mathlib.Core.Bool.{Bool, true, false}
use mathlib.Core.List.Memᴰ
use mathlib.Core.List.{List, ◌∷◌, ◌++◌, Memᴰ}
use Rattle.model.specs.Marks.{count}
use Rattle.model.specs.Sound.{Distinct, Rearranged}
use Rattle.model.specs.Tree.{Tree, top, marks, size, height, numbers}
use Rattle.model.proofs.Distincts.{distinct_second, distinct_apart}
use Rattle.model.proofs.Rearranged.{weigh, weigh_append, rearranged_sym, rearranged_member, rearranged_distinct}
use Rattle.model.proofs.Shape.{shape, alike_top, alike_height, alike_numbers}
use Rattle.bits.specs.Leaf.{leaf_of}
use Rattle.bits.specs.declared.leaf.Leaf.{Leaf}
use Rattle.pool.specs.Node.{leaf_cell, fork_cell, node_at, put, with_left, Put}
use Rattle.pool.specs.Layout.{Holds, Rooted, Edited, fork_of}
use Rattle.pool.specs.declared.node.Fork.{Fork}
use Rattle.pool.specs.declared.node.Node.TheVariants.{Leaf as leaf, Fork as fork}
use Rattle.pool.proofs.Cells.{put_leaf, put_fork, leaf_says, fork_says}
use Rattle.pool.proofs.Standing.{holds_same, leaf_read, fork_read, left_rooted, right_rooted}
use Rattle.model.specs.Side.{side}
use Rattle.spine.specs.Edges.{Editable}

-- ---- each number of a fork stands once

-- the numbers of a fork: the top's, the other child's, and the child's
opens : (left : Bool) (m : ℕ) (l r : Tree) → Rearranged (numbers (Tree.fork m l r)) (m ∷ (numbers (side left r l) ++ numbers (side left l r)))
unfolding numbers weigh
opens true m l r w = simp weigh_append (omega arith)
opens false m l r w = simp weigh_append (omega arith)

module _ (left : Bool) (m : ℕ) (l r : Tree) (once : Distinct (numbers (Tree.fork m l r))) where
  apart : Distinct (m ∷ (numbers (side left r l) ++ numbers (side left l r)))
  apart = rearranged_distinct _ _ (opens left m l r) once

  once_child : Distinct (numbers (side left l r))
  once_child = distinct_second (numbers (side left r l)) (numbers (side left l r)) apart.1

  top_not_child : (k : ℕ) → Memᴰ k (numbers (side left l r)) → k ≡ m → ⊥
  top_not_child k h e = apart.0 (Memᴰ.append_right (numbers (side left r l)) (Memᴰ.cast (sym e) h))

  top_not_other : (k : ℕ) → Memᴰ k (numbers (side left r l)) → k ≡ m → ⊥
  top_not_other k h e = apart.0 (Memᴰ.append_left (numbers (side left l r)) (Memᴰ.cast (sym e) h))

  not_other : (k : ℕ) → Memᴰ k (numbers (side left r l)) → Memᴰ k (numbers (side left l r)) → ⊥
  not_other = distinct_apart (numbers (side left r l)) (numbers (side left l r)) apart.1

  child_member : (k : ℕ) → Memᴰ k (numbers (side left l r)) → Memᴰ k (numbers (Tree.fork m l r))
  child_member k h =
      rearranged_member k _ _ (rearranged_sym _ _ (opens left m l r)) (Memᴰ.tail (Memᴰ.append_right (numbers (side left r l)) h))

-- the same of the left child and of the right one
module _ (m : ℕ) (l r : Tree) (once : Distinct (numbers (Tree.fork m l r))) where
  pub once_left : Distinct (numbers l)
  once_left = once_child true m l r once

  pub once_right : Distinct (numbers r)
  once_right = once_child false m l r once

  pub top_not_left : (k : ℕ) → Memᴰ k (numbers l) → k ≡ m → ⊥
  top_not_left = top_not_child true m l r once

  pub top_not_right : (k : ℕ) → Memᴰ k (numbers r) → k ≡ m → ⊥
  top_not_right = top_not_child false m l r once

  pub not_both : (k : ℕ) → Memᴰ k (numbers l) → Memᴰ k (numbers r) → ⊥
  not_both = not_other false m l r once

-- ---- the children of a tree

pub rooted_child : (left : Bool) {w : List ℕ} {n levels : ℕ} (m : ℕ) (l r : Tree) → Rooted w n levels (Tree.fork m l r)
    → Rooted w (side left (top l) (top r)) (levels - 1) (side left l r)
rooted_child true m l r h = left_rooted m l r h
rooted_child false m l r h = right_rooted m l r h

-- the children of a tree that may be edited may be edited
pub editable_child : (left : Bool) {w : List ℕ} {n levels : ℕ} {f : Fork} (m : ℕ) (l r : Tree) → Editable w n levels (Tree.fork m l r)
    → f ≡ fork_of l r → Editable w (side left f.left f.right) (levels - 1) (side left l r)
unfolding fork_of
editable_child left m l r o s =
    record { rooted = rw s (rooted_child left m l r o.rooted); once = once_child left m l r o.once }

held_other : (left : Bool) (w : List ℕ) (m : ℕ) (l r : Tree) → Holds w (Tree.fork m l r) → Holds w (side left r l)
held_other true w m l r h = h.2
held_other false w m l r h = h.1

held_both : (left : Bool) (w : List ℕ) (l r t : Tree) → Holds w t → Holds w (side left r l) → Holds w (side left t l) × Holds w (side left r t)
held_both true w l r t h k = (h, k)
held_both false w l r t h k = (k, h)

-- ---- the fork above a child that keeps its shape

-- a left child: its totals are other ones
pub fork_left : (f : Fork) (l l' r : Tree) (total ones : ℕ) → f ≡ fork_of l r → shape l' ≡ shape l → total ≡ size l'
    → ones ≡ count true (marks l') → with_left f total ones ≡ fork_of l' r
unfolding fork_of
fork_left f l l' r total ones e s t o =
    let tops : f.left ≡ top l' = ap (λ (g : Fork). g.left) e ∙ sym (alike_top l' l s) in
    let leans : f.balance ≡ (height r + 2) - height l' =
    ap (λ (g : Fork). g.balance) e ∙ ap (λ (h : ℕ). (height r + 2) - h) (sym (alike_height l' l s)) in
    λ i. record { left = tops i; right = (e i).right; left_total = t i; left_ones = o i; balance = leans i }

-- a right child: nothing changes
pub fork_right : (l r r' : Tree) → shape r' ≡ shape r → fork_of l r ≡ fork_of l r'
unfolding fork_of
fork_right l r r' s = rw (alike_top r' r s, alike_height r' r s)

-- ---- an edit of a part is an edit of the tree

-- other marks at a leaf
pub edited_leaf : {w w' : List ℕ} {n levels : ℕ} {x : Leaf} (m : ℕ) (xs ys : List Bool) → Rooted w n levels (Tree.leaf m xs)
    → x ≡ leaf_of ys → w' ≡ put w n (leaf_cell x) → Edited w w' (numbers (Tree.leaf m xs)) (Tree.leaf m ys)
unfolding numbers top
edited_leaf {w} {w'} {n} {levels} {x} m xs ys h s e =
    let p : Put w w' n (leaf x) = rw e (put_leaf w n x (leaf_says w n (leaf_of xs) (leaf_read m xs h)).0) in
    record {
      size = p.size;
      holds = ap (node_at w') h.at ∙ p.here ∙ ap leaf s;
      else = λ k out. p.else k (λ same. out (Memᴰ.head (same ∙ sym h.at)));
    }

module _ {w v : List ℕ} {n levels : ℕ} (m : ℕ) (l r : Tree) (o : Editable w n levels (Tree.fork m l r)) where
  -- the fork stays while a child is edited
  pub top_stays : (left : Bool) (t : Tree) → Edited w v (numbers (side left l r)) t → node_at v n ≡ fork (fork_of l r)
  unfolding top
  top_stays left t e =
      e.else n (λ i. top_not_child left m l r o.once n i (sym o.rooted.at)) ∙ fork_read m l r o.rooted

  -- the child's edit, and then what the fork above it is to be
  pub edited_child : (left : Bool) {w' : List ℕ} (t : Tree) → shape t ≡ shape (side left l r) → Edited w v (numbers (side left l r)) t
      → Put v w' n (fork (fork_of (side left t l) (side left r t)))
      → Edited w w' (numbers (Tree.fork m l r)) (Tree.fork m (side left t l) (side left r t))
  unfolding top numbers
  edited_child left {w'} t s e p =
      let once = o.once in
      let other = side left r l in
      let past : (k : ℕ) → (k ≡ m → ⊥) → node_at w' k ≡ node_at v k = λ k ne. p.else k (λ same. ne (same ∙ sym o.rooted.at)) in
      let child_holds : Holds w' t =
      holds_same v w' t (λ k i. past k (top_not_child left m l r once k (rw (alike_numbers t (side left l r) s) at i))) e.holds in
      let other_holds : Holds w' other =
      holds_same w w' other (λ k i. past k (top_not_other left m l r once k i) ∙ e.else k (not_other left m l r once k i))
      (held_other left w m l r o.rooted.holds) in
      let both = held_both left w' l r t child_holds other_holds in
      record {
        size = p.size ∙ e.size;
        holds = (ap (node_at w') o.rooted.at ∙ p.here, both.0, both.1);
        else = λ k out. past k (λ same. out (Memᴰ.head same)) ∙ e.else k (λ i. out (child_member left m l r once k i));
      }

  -- a left child's totals are put into the fork
  pub edited_left : {w' : List ℕ} {g : Fork} (l' : Tree) → shape l' ≡ shape l → Edited w v (numbers l) l' → g ≡ fork_of l' r
      → w' ≡ put v n (fork_cell g) → Edited w w' (numbers (Tree.fork m l r)) (Tree.fork m l' r)
  edited_left {w'} {g} l' s e f z =
      edited_child true l' s e (rw (z, ← f) (put_fork v n g (fork_says v n (fork_of l r) (top_stays true l' e)).0))

  -- a right child's are not in it
  pub edited_right : (r' : Tree) → shape r' ≡ shape r → Edited w v (numbers r) r' → Edited w v (numbers (Tree.fork m l r)) (Tree.fork m l r')
  edited_right r' s e =
      edited_child false r' s e
      (record { size = refl; here = top_stays false r' e ∙ ap fork (fork_right l r r' s); else = λ k ne. refl })
