-- Each function along an edge, at a leaf and at a fork: what it may assume there, and what it leaves if its call on the child does.
use Prim.Native.Nat.{ℕ, ◌+◌, ◌-◌, ◌^◌, ◌≤◌, ◌<◌}
use native.Mathlib.Omega.{arith}
use mathlib.Core.Path.{◌≡◌, refl, sym, ap, ◌∙◌}
use mathlib.Core.Bool.{Bool, true, false}
use mathlib.Core.List.{List, ◌++◌}
use lib.ListN.{length, take, drop}
use Rattle.model.specs.Edit.{put_before, put_after, drop_first, drop_last, first_mark, last_mark}
use Rattle.model.specs.Marks.{access, count, remove}
use Rattle.model.specs.Tree.{Tree, top, marks, size, first_leaf, last_leaf, numbers}
use Rattle.model.specs.Word.{digit}
use Rattle.model.proofs.Shape.{put_before_shape, put_after_shape, drop_first_shape, drop_last_shape}
use Rattle.bits.specs.Leaf.{bits_of, leaf_of}
use Rattle.bits.specs.declared.leaf.Leaf.{Leaf}
use Rattle.pool.specs.Node.{leaf_cell, leaf_in, fork_cell, less_left, node_at, put, with_left}
use Rattle.pool.specs.Layout.{Holds, Rooted, Edited, fork_of}
use Rattle.pool.specs.declared.node.Fork.{Fork}
use Rattle.pool.specs.declared.node.Node.TheVariants.{Leaf as leaf, Fork as fork}
use Rattle.pool.proofs.Standing.{by_leaf, by_fork, some_level, leaf_small}
use Rattle.tree.specs.Stepping.{left_child, right_child}
use Rattle.tree.specs.TreeAt.{TreeAt, tree_at}
use Rattle.tree.specs.declared.root.Root.{Root}
use Rattle.spine.specs.Edges.{Editable, IsLast, ToPutBefore, ToDropFirst, Taken, last_number}
use Rattle.spine.proofs.Edits.{rooted_child, editable_child, fork_left, edited_leaf, edited_left, edited_right, top_stays}
use Rattle.spine.proofs.Ends.{put_before_size, put_before_count, drop_first_size, drop_first_count, count_most, strikes_most, joined, first_removed, first_marked, last_removed, last_marked}

-- ---- a fork was read

module _ {w : List ℕ} {n levels : ℕ} (t : Tree) (h : Rooted w n levels t) {f : Fork} (read : node_at w n ≡ fork f) where
  -- there is a level below
  pub level : 1 ≤ levels
  level = by_fork (λ _. 1 ≤ levels) t f h read (λ m l r h s. some_level m l r h)

-- what the fork over two children says of the left one
module _ {f : Fork} (l r : Tree) (s : f ≡ fork_of l r) where
  left_total : f.left_total ≡ size l
  unfolding fork_of
  left_total = ap (λ (g : Fork). g.left_total) s

  left_ones : f.left_ones ≡ count true (marks l)
  unfolding fork_of
  left_ones = ap (λ (g : Fork). g.left_ones) s

-- ---- the leaf at an edge

module _ {w : List ℕ} {root : Root} {levels : ℕ} (s : TreeAt w root levels) where
  pub first_of_leaf : {x : Leaf} → node_at w root.node ≡ leaf x → root.length ≡ length (first_leaf s.tree)
  unfolding size first_leaf
  first_of_leaf {x} read =
      by_leaf (λ t. size t ≡ root.length → root.length ≡ length (first_leaf t)) s.tree x s.rooted read (λ m xs h p e. sym e) s.total

  pub last_of_leaf : {x : Leaf} → node_at w root.node ≡ leaf x → IsLast root s.tree
  unfolding size last_leaf top
  last_of_leaf {x} read =
      by_leaf (λ t. size t ≡ root.length → IsLast root t) s.tree x s.rooted read
      (λ m xs h p e. record { at = sym h.at; size_is = sym e }) s.total

  module _ {f : Fork} (read : node_at w root.node ≡ fork f) where
    pub first_of_fork : {k : ℕ} → ((c : TreeAt w (left_child f) (levels - 1)) → k ≡ length (first_leaf c.tree))
        → k ≡ length (first_leaf s.tree)
    unfolding first_leaf fork_of
    first_of_fork {k} below =
        by_fork (λ t. k ≡ length (first_leaf t)) s.tree f s.rooted read
        (λ m l r h e. below (tree_at l (rw e (rooted_child true m l r h)) (sym (left_total l r e))))

    pub last_of_fork : {k : Root} → ((c : TreeAt w (right_child f root.length) (levels - 1)) → IsLast k c.tree) → IsLast k s.tree
    unfolding size last_leaf fork_of
    last_of_fork {k} below =
        by_fork (λ t. size t ≡ root.length → IsLast k t) s.tree f s.rooted read
        (λ m l r h e z.
        let i = below (tree_at r (rw e (rooted_child false m l r h)) (omega (arith, left_total l r e, z))) in
        record { at = i.at; size_is = i.size_is }) s.total

-- ---- marks put before the first

before_child : {w : List ℕ} {n levels z o : ℕ} {a : Leaf} {f : Fork} (m : ℕ) (l r : Tree) (ys : List Bool)
    → ToPutBefore w n levels a z o (Tree.fork m l r) ys → f ≡ fork_of l r → ToPutBefore w f.left (levels - 1) a z o l ys
unfolding first_leaf
before_child m l r ys q s =
    record { tree = editable_child true m l r q.tree s; held = q.held; total = q.total; strikes = q.strikes; room = q.room }

module _ {w : List ℕ} {n levels z o : ℕ} {a : Leaf} (t : Tree) (ys : List Bool) (q : ToPutBefore w n levels a z o t ys) where
  pub before_at_leaf : {w' : List ℕ} {x c : Leaf} → node_at w n ≡ leaf x → c ≡ leaf_of (take z (bits_of a) ++ bits_of x)
      → w' ≡ put w n (leaf_cell c) → Edited w w' (numbers t) (put_before ys t)
  unfolding put_before first_leaf
  before_at_leaf {w'} {x} read s e =
      by_leaf (λ t. ToPutBefore w n levels a z o t ys → Edited w w' (numbers t) (put_before ys t)) t x q.tree.rooted read
      (λ m xs h p q. edited_leaf m xs (ys ++ xs) h (joined ys xs q.held q.total p (let room = q.room in omega arith) s) e) q

  module _ {f : Fork} (read : node_at w n ≡ fork f) where
    -- the left child has room for the marks too
    pub before_below : size t + z < 2 ^ 64
        → (l : Tree) × (ys : List Bool) × ToPutBefore w f.left (levels - 1) a z o l ys × (size l + z < 2 ^ 64)
    unfolding size
    before_below =
        by_fork
        (λ t. ToPutBefore w n levels a z o t ys → size t + z < 2 ^ 64
        → (l : Tree) × (ys : List Bool) × ToPutBefore w f.left (levels - 1) a z o l ys × (size l + z < 2 ^ 64))
        t f q.tree.rooted read (λ m l r h s q fits. (l, ys, before_child m l r ys q s, omega arith)) q

    -- and its totals stay within a word
    pub before_fits : size t + z < 2 ^ 64 → (f.left_total + z < 2 ^ 64) × (f.left_ones + o < 2 ^ 64)
    unfolding size
    before_fits =
        by_fork
        (λ t. ToPutBefore w n levels a z o t ys → size t + z < 2 ^ 64 → (f.left_total + z < 2 ^ 64) × (f.left_ones + o < 2 ^ 64))
        t f q.tree.rooted read
        (λ m l r h s q fits.
        let total = left_total l r s in
        let ones = left_ones l r s in
        let most = strikes_most l in
        let few = count_most ys in
        let long = q.total in
        let strikes = q.strikes in
        (omega arith, omega arith)) q

    pub before_at_fork : {v w' : List ℕ} {g : Fork}
        → ((l : Tree) (ys : List Bool) → ToPutBefore w f.left (levels - 1) a z o l ys → Edited w v (numbers l) (put_before ys l))
        → g ≡ with_left f (f.left_total + z) (f.left_ones + o) → w' ≡ put v n (fork_cell g)
        → Edited w w' (numbers t) (put_before ys t)
    unfolding put_before
    before_at_fork {v} {w'} {g} below s' e =
        by_fork (λ t. ToPutBefore w n levels a z o t ys → Edited w w' (numbers t) (put_before ys t)) t f q.tree.rooted read
        (λ m l r h s q.
        let l' = put_before ys l in
        let alike = put_before_shape ys l in
        let total : f.left_total + z ≡ size l' = omega (arith, left_total l r s, q.total, put_before_size ys l) in
        let ones : f.left_ones + o ≡ count true (marks l') = omega (arith, left_ones l r s, q.strikes, put_before_count ys l) in
        edited_left m l r q.tree l' alike (below l ys (before_child m l r ys q s)) (s' ∙ fork_left f l l' r _ _ s alike total ones) e) q

-- ---- the first mark taken off

first_child : {w : List ℕ} {n levels : ℕ} {f : Fork} (m : ℕ) (l r : Tree) → ToDropFirst w n levels (Tree.fork m l r) → f ≡ fork_of l r
    → ToDropFirst w f.left (levels - 1) l
unfolding first_leaf
first_child m l r q s = record { tree = editable_child true m l r q.tree s; some = q.some }

module _ {w : List ℕ} {n levels : ℕ} (t : Tree) (q : ToDropFirst w n levels t) where
  pub first_at_leaf : {w' : List ℕ} {x c : Leaf} {b : Bool} → node_at w n ≡ leaf x → c ≡ leaf_of (remove 0 (bits_of x))
      → w' ≡ put w n (leaf_cell c) → b ≡ access 0 (bits_of x) → Taken w w' t (first_mark t) (drop_first t) b
  unfolding drop_first first_mark first_leaf
  first_at_leaf {w'} {x} {b = b} read s e bit =
      by_leaf (λ t. ToDropFirst w n levels t → Taken w w' t (first_mark t) (drop_first t) b) t x q.tree.rooted read
      (λ m xs h p q.
      let small = leaf_small m xs h in
      record {
        edited = edited_leaf m xs (drop 1 xs) h (first_removed xs p small q.some s) e;
        marked = first_marked xs p small q.some bit;
      }) q

  module _ {f : Fork} (read : node_at w n ≡ fork f) where
    pub first_below : (l : Tree) × ToDropFirst w f.left (levels - 1) l
    first_below =
        by_fork (λ t. ToDropFirst w n levels t → (l : Tree) × ToDropFirst w f.left (levels - 1) l) t f q.tree.rooted read
        (λ m l r h s q. (l, first_child m l r q s)) q

    module _ {v : List ℕ} {b : Bool}
        (below : (l : Tree) → ToDropFirst w f.left (levels - 1) l → Taken w v l (first_mark l) (drop_first l) b) where
      -- the fork still stands, and the totals that it has of its left child had the mark
      pub first_counts : (f : Fork) × (node_at v n ≡ fork f) × (1 ≤ f.left_total) × (digit b ≤ f.left_ones)
      first_counts =
          by_fork (λ t. ToDropFirst w n levels t → (f : Fork) × (node_at v n ≡ fork f) × (1 ≤ f.left_total) × (digit b ≤ f.left_ones))
          t f q.tree.rooted read
          (λ m l r h s q.
          let done = below l (first_child m l r q s) in (
            f,
            top_stays m l r q.tree true (drop_first l) done.edited ∙ ap fork (sym s),
            omega (arith, left_total l r s, drop_first_size l b done.marked),
            omega (arith, left_ones l r s, drop_first_count l b done.marked),
          )) q

      pub first_at_fork : {w' : List ℕ} → ((f : Fork) → node_at v n ≡ fork f → w' ≡ put v n (fork_cell (less_left f 1 (digit b))))
          → Taken w w' t (first_mark t) (drop_first t) b
      unfolding drop_first first_mark first_leaf
      first_at_fork {w'} e =
          by_fork (λ t. ToDropFirst w n levels t → Taken w w' t (first_mark t) (drop_first t) b) t f q.tree.rooted read
          (λ m l r h s q.
          let done = below l (first_child m l r q s) in
          let l' = drop_first l in
          let alike = drop_first_shape l in
          let total : f.left_total - 1 ≡ size l' = omega (arith, left_total l r s, drop_first_size l b done.marked) in
          let ones : f.left_ones - digit b ≡ count true (marks l') = omega (arith, left_ones l r s, drop_first_count l b done.marked) in
          let stays = top_stays m l r q.tree true l' done.edited ∙ ap fork (sym s) in
          record {
            edited = edited_left m l r q.tree l' alike done.edited (fork_left f l l' r _ _ s alike total ones) (e f stays);
            marked = done.marked;
          }) q

-- ---- at the last leaf

-- what stands there
last_held : (w : List ℕ) (t : Tree) → Holds w t → node_at w (last_number t) ≡ leaf (leaf_of (last_leaf t))
unfolding last_leaf
last_held w (Tree.leaf m xs) h = h
last_held w (Tree.fork m l r) h = last_held w r h.2

last_small : {w : List ℕ} (t : Tree) {n levels : ℕ} → Rooted w n levels t → length (last_leaf t) ≤ 127
unfolding last_leaf
last_small (Tree.leaf m xs) h = leaf_small m xs h
last_small (Tree.fork m l r) h = last_small r (rooted_child false m l r h)

-- other marks there are other marks of the tree
module _ {w w' : List ℕ} {c : Leaf} where
  after_edited : (ys : List Bool) (t : Tree) {levels : ℕ} → Editable w (top t) levels t → c ≡ leaf_of (last_leaf t ++ ys)
      → w' ≡ put w (last_number t) (leaf_cell c) → Edited w w' (numbers t) (put_after ys t)
  unfolding put_after last_leaf top fork_of
  after_edited ys (Tree.leaf m xs) o s e = edited_leaf m xs (xs ++ ys) o.rooted s e
  after_edited ys (Tree.fork m l r) o s e =
      edited_right m l r o (put_after ys r) (put_after_shape ys r) (after_edited ys r (editable_child false m l r o refl) s e)

  last_edited : (t : Tree) {levels : ℕ} → Editable w (top t) levels t → c ≡ leaf_of (take (length (last_leaf t) - 1) (last_leaf t))
      → w' ≡ put w (last_number t) (leaf_cell c) → Edited w w' (numbers t) (drop_last t)
  unfolding drop_last last_leaf top fork_of
  last_edited (Tree.leaf m xs) o s e = edited_leaf m xs (take (length xs - 1) xs) o.rooted s e
  last_edited (Tree.fork m l r) o s e =
      edited_right m l r o (drop_last r) (drop_last_shape r) (last_edited r (editable_child false m l r o refl) s e)

module _ {w : List ℕ} {n levels : ℕ} (t : Tree) (o : Editable w n levels t) {k : Root} (is : IsLast k t) where
  -- at its own number
  own : Editable w (top t) levels t
  own = record { rooted = record { at = refl; holds = o.rooted.holds; deep = o.rooted.deep; sized = o.rooted.sized }; once = o.once }

  pub last_read : node_at w k.node ≡ leaf (leaf_of (last_leaf t))
  last_read = ap (node_at w) is.at ∙ last_held w t o.rooted.holds

  module _ {w' : List ℕ} {old c : Leaf} (read : old ≡ leaf_in (node_at w k.node)) (e : w' ≡ put w k.node (leaf_cell c)) where
    pub after_put : {a : Leaf} (ys : List Bool) → a ≡ leaf_of ys → length ys + length (last_leaf t) ≤ 127
        → c ≡ leaf_of (take k.length (bits_of old) ++ bits_of a) → Edited w w' (numbers t) (put_after ys t)
    after_put ys held room s =
        after_edited ys t own (joined (last_leaf t) ys (read ∙ ap leaf_in last_read) (sym is.size_is) held (omega arith) s) (rw (← is.at) e)

    pub last_taken : {b : Bool} → 1 ≤ length (last_leaf t) → c ≡ leaf_of (remove (k.length - 1) (bits_of old))
        → b ≡ access (k.length - 1) (bits_of old)
        → Taken w w' t (last_mark t) (drop_last t) b
    unfolding last_mark
    last_taken some s bit =
        let xs = last_leaf t in
        let old_is = read ∙ ap leaf_in last_read in
        let small = last_small t o.rooted in
        record {
          edited = last_edited t own (last_removed xs old_is small some (rw is.size_is at s)) (rw (← is.at) e);
          marked = last_marked xs old_is small some (rw is.size_is at bit);
        }
