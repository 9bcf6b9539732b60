-- A fork of which one child is a leaf with too few marks: joined to the leaf next to it, or lent a mark by it. The calls
-- of each side ask for other things, and each has a law for that; what they leave is said once for both.
use Prim.Native.Nat.{ℕ, suc, ◌+◌, ◌-◌, ◌^◌, ◌≤◌, ◌<◌}
use native.Mathlib.Omega.{arith}
use mathlib.Core.Path.{◌≡◌, refl, sym, ap, ◌∙◌}
use mathlib.Core.Bool.{Bool, true, false}
use mathlib.Core.List.{List, [], ◌∷◌, ◌++◌}
use lib.ListN.{length, length-append}
use mir.Val.{bool_byte}
use Rattle.model.specs.Edit.{put_before, put_after, drop_first, drop_last, first_mark, last_mark}
use Rattle.model.specs.Marks.{count, ones, wanted}
use Rattle.model.specs.Tree.{Tree, top, marks, size, height, numbers, first_leaf, last_leaf}
use Rattle.model.specs.Word.{number, digit}
use Rattle.model.proofs.Content.{size_marks, put_after_marks, drop_last_marks}
use Rattle.model.proofs.Counting.{count_append}
use Rattle.model.proofs.Paths.{count_size}
use Rattle.model.proofs.Shape.{shape, alike_top, put_before_shape, put_after_shape, drop_first_shape, drop_last_shape}
use Rattle.bits.specs.Leaf.{leaf_of, packed}
use Rattle.bits.specs.declared.leaf.Leaf.{Leaf}
use Rattle.pool.specs.Layout.{Holds, Rooted, Edited}
use Rattle.pool.specs.Node.{OfTree, fork_cell, fork_in, leaf_in, node_at, nodes_in, put, put_node}
use Rattle.pool.specs.declared.node.Fork.{Fork}
use Rattle.pool.specs.declared.node.Node.TheVariants.{Leaf as leaf, Fork as fork}
use Rattle.pool.proofs.Cells.{fork_says}
use Rattle.tree.specs.Stepping as Stepping
use Rattle.tree.specs.TreeAt.{TreeAt, tree_at}
use Rattle.spine.specs.Edges.{Editable, ToPutBefore, ToPutAfter, ToDropFirst, ToDropLast, Taken}
use Rattle.spine.proofs.Edits.{fork_left, fork_right}
use Rattle.model.specs.Side.{side}
use Rattle.turn.proofs.Read.{Fields, fields}
use Rattle.descent.specs.SiteAt.{one_more}
use Rattle.descent.proofs.Digits.{byte_digit, count_cons}
use Rattle.shrink.specs.Mending.{Lent, Merged, Over, Short, ToBorrow, ToMeasure, ToMerge, ToUncount, joined, one_less}
use Rattle.shrink.proofs.Parts.{apart, forked, merged, once_child, once_other, rooted_same, top_not_child, top_not_other}

-- ---- leaves

-- a leaf of one mark
pub lone_leaf : (b : Bool) → leaf_of (b ∷ []) ≡ record { low = bool_byte b; high = 0 }
unfolding leaf_of packed number digit
lone_leaf true = refl
lone_leaf false = refl

count_one : (b : Bool) → count true (b ∷ []) ≡ digit b
unfolding count wanted ones
count_one b = omega (arith, count_cons b [])

-- what is read of a tree of no height is its marks
read_leaf : {w : List ℕ} {n levels : ℕ} {x : Leaf} (t : Tree) → Rooted w n levels t → height t ≡ 0 → x ≡ leaf_in (node_at w n)
    → x ≡ leaf_of (marks t)
unfolding height marks top
read_leaf {w} (Tree.leaf m xs) h e r = r ∙ ap (λ (k : ℕ). leaf_in (node_at w k)) (sym h.at) ∙ ap leaf_in h.holds
read_leaf (Tree.fork m l r) h e x = absurd (omega arith)

-- there a leaf is read
flat_read : {w : List ℕ} {n levels : ℕ} (t : Tree) → Rooted w n levels t → height t ≡ 0 → (x : Leaf) × (node_at w n ≡ leaf x)
unfolding height top
flat_read {w} (Tree.leaf m xs) h e = (leaf_of xs, ap (node_at w) (sym h.at) ∙ h.holds)
flat_read (Tree.fork m l r) h e = absurd (omega arith)

-- at the top of any tree a tree's node is read
tree_read : (w : List ℕ) (t : Tree) → Holds w t → OfTree (node_at w (top t))
unfolding top
tree_read w (Tree.leaf m xs) h = rw h tt
tree_read w (Tree.fork m l r) h = rw h.0 tt

-- the one leaf of a tree of no height holds all its marks
flat_first : (t : Tree) → height t ≡ 0 → length (first_leaf t) ≡ size t
unfolding height first_leaf size
flat_first (Tree.leaf m xs) e = refl
flat_first (Tree.fork m l r) e = absurd (omega arith)

flat_last : (t : Tree) → height t ≡ 0 → length (last_leaf t) ≡ size t
unfolding height last_leaf size
flat_last (Tree.leaf m xs) e = refl
flat_last (Tree.fork m l r) e = absurd (omega arith)

-- ---- the fork

rooted_child : {w : List ℕ} {levels : ℕ} {f : Fork} (left : Bool) (o : Over w levels f)
    → Rooted w (side left f.left f.right) levels (side left o.l o.r)
rooted_child true o = o.left_rooted
rooted_child false o = o.right_rooted

rooted_other : {w : List ℕ} {levels : ℕ} {f : Fork} (left : Bool) (o : Over w levels f)
    → Rooted w (side left f.right f.left) levels (side left o.r o.l)
rooted_other true o = o.right_rooted
rooted_other false o = o.left_rooted

-- each child, told by its root
module _ {w : List ℕ} {levels total : ℕ} {f : Fork} (b : ToMeasure w levels f total) where
  pub over_tells : Fields f b.over.l b.over.r
  over_tells = fields f b.over.l b.over.r b.over.is

  pub left_within : f.left_total ≤ total
  left_within = omega (arith, over_tells.total, b.total_is)

  abbrev pub left_at : TreeAt w (Stepping.left_child f) levels
  left_at = tree_at b.over.l b.over.left_rooted (sym over_tells.total)

  abbrev pub right_at : TreeAt w (Stepping.right_child f total) levels
  right_at = tree_at b.over.r b.over.right_rooted (omega (arith, over_tells.total, b.total_is))

module _ {w : List ℕ} {n levels : ℕ} {f : Fork} {left : Bool} (s : Short w n levels f left) where
  abbrev l : Tree
  l = s.over.l

  abbrev r : Tree
  r = s.over.r

  within : n < nodes_in w
  within = (fork_says w n f s.says).0

  tells : Fields f l r
  tells = fields f l r s.over.is

  pub short_read_leaf : (x : Leaf) × (node_at w (side left f.left f.right) ≡ leaf x)
  short_read_leaf = flat_read (side left l r) (rooted_child left s.over) s.flat

  other_editable : Editable w (side left f.right f.left) levels (side left r l)
  other_editable = record { rooted = rooted_other left s.over; once = once_other n l r s.once left }

  module _ {v : List ℕ} {other : Tree} (e : Edited w v (numbers (side left r l)) other) where
    -- this child stands as it did once the other has been edited
    child_stays : Editable v (side left f.left f.right) levels (side left l r)
    child_stays =
        record {
          rooted = rooted_same (side left l r) (λ k i. e.else k (apart n l r s.once left k i)) (rooted_child left s.over);
          once = once_child n l r s.once left;
        }

    -- and so does the fork once both have
    top_stays : {u : List ℕ} {child : Tree} → Edited v u (numbers (side left l r)) child → node_at u n ≡ fork f
    top_stays d =
        d.else n (λ i. top_not_child n l r s.once left n i refl) ∙ e.else n (λ i. top_not_other n l r s.once left n i refl)
        ∙ s.says

-- ---- the short child joined to the leaf next to it

module _ {w : List ℕ} {n levels : ℕ} {f : Fork} where
  module _ (b : ToMerge w n levels f true) where
    pub merge_left_asks : {x : Leaf} → x ≡ leaf_in (node_at w f.left)
        → ToPutBefore w f.right levels x f.left_total f.left_ones (r b.short) (marks (l b.short))
    merge_left_asks read =
        let s = b.short in
        let long = size_marks (l s) in
        let low = s.low in
        let lean = b.lean in
        record {
          tree = other_editable s;
          held = read_leaf (l s) s.over.left_rooted s.flat read;
          total = sym long ∙ sym (tells s).total;
          strikes = sym (tells s).ones;
          room = omega arith;
        }

    pub merge_left_fits : size (r b.short) + f.left_total < 2 ^ 64
    merge_left_fits = let total = (tells b.short).total in let few = b.short.few in omega arith

  pub merge_right_asks : {x : Leaf} (b : ToMerge w n levels f false) → x ≡ leaf_in (node_at w f.right)
      → ToPutAfter w (Stepping.left_child f) levels x (l b.short) (marks (r b.short))
  merge_right_asks b read =
      let s = b.short in
      let long = size_marks (r s) in
      let low = s.low in
      let lean = b.lean in
      record {
        tree = other_editable s;
        total = sym (tells s).total;
        held = read_leaf (r s) s.over.right_rooted s.flat read;
        room = omega arith;
      }

-- the other child keeps its shape
pub joined_shape : (left : Bool) (l r : Tree) → shape (joined left l r) ≡ shape (side left r l)
joined_shape true l r = put_before_shape (marks l) r
joined_shape false l r = put_after_shape (marks r) l

joined_top : {w : List ℕ} {levels : ℕ} {f : Fork} (left : Bool) (o : Over w levels f)
    → top (joined left o.l o.r) ≡ side left f.right f.left
joined_top left o =
    alike_top (joined left o.l o.r) (side left o.r o.l) (joined_shape left o.l o.r) ∙ (rooted_other left o).at

-- the joined tree can be moved
pub merge_moves : {w v : List ℕ} {n levels : ℕ} {f : Fork} {left : Bool} (b : ToMerge w n levels f left)
    → Edited w v (numbers (side left (r b.short) (l b.short))) (joined left (l b.short) (r b.short))
    → OfTree (node_at v (side left f.right f.left))
merge_moves {left = left} b e =
    let s = b.short in
    rw (← joined_top left s.over) (tree_read _ (joined left (l s) (r s)) e.holds)

pub merge_done : {w v w' : List ℕ} {n levels : ℕ} {f : Fork} {left : Bool} (b : ToMerge w n levels f left)
    → Edited w v (numbers (side left (r b.short) (l b.short))) (joined left (l b.short) (r b.short))
    → w' ≡ put_node v n (node_at v (side left f.right f.left)) → Merged b w'
merge_done {n = n} {left = left} b e z =
    let s = b.short in
    let alike = joined_shape left (l s) (r s) in
    merged (side left (r s) (l s)) (joined left (l s) (r s)) alike (joined_top left s.over) (within s)
    (top_not_other n (l s) (r s) s.once left) e z

-- ---- totals of the left child

-- a mark put after the last
module _ (t : Tree) (b : Bool) where
  after_size : size t + 1 ≡ size (put_after (b ∷ []) t)
  after_size =
      omega (arith, size_marks t, size_marks (put_after (b ∷ []) t), ap length (put_after_marks (b ∷ []) t), length-append (marks t) (b ∷ []))

  after_count : count true (marks t) + digit b ≡ count true (marks (put_after (b ∷ []) t))
  after_count = omega (arith, ap (count true) (put_after_marks (b ∷ []) t), count_append true (marks t) (b ∷ []), count_one b)

-- the last mark taken off
module _ (t : Tree) (b : Bool) (e : last_mark t ≡ b ∷ []) where
  parts : marks (drop_last t) ++ (b ∷ []) ≡ marks t
  parts = rw e at (drop_last_marks t)

  drop_last_size : size t ≡ suc (size (drop_last t))
  drop_last_size = omega (arith, size_marks t, size_marks (drop_last t), ap length parts, length-append (marks (drop_last t)) (b ∷ []))

  drop_last_count : count true (marks t) ≡ count true (marks (drop_last t)) + digit b
  drop_last_count = omega (arith, ap (count true) parts, count_append true (marks (drop_last t)) (b ∷ []), count_one b)

-- ---- the first mark of the right child lent to the left one

module _ {w : List ℕ} {n levels : ℕ} {f : Fork} (b : ToBorrow w n levels f true) where
  abbrev left_child : Tree
  left_child = l b.short

  abbrev right_child : Tree
  right_child = r b.short

  pub borrow_left_asks : ToDropFirst w f.right levels right_child
  borrow_left_asks = record { tree = other_editable b.short; some = let rich = b.rich in omega arith }

  module _ {v : List ℕ} {bit : Bool} (d : Taken w v right_child (first_mark right_child) (drop_first right_child) bit) where
    pub borrow_left_puts : {x : Leaf} → x ≡ leaf_of (bit ∷ []) → ToPutAfter v (Stepping.left_child f) levels x left_child (bit ∷ [])
    borrow_left_puts held =
        record {
          tree = child_stays b.short d.edited;
          total = sym (tells b.short).total;
          held = held;
          room = let low = b.short.low in omega (arith, flat_last left_child b.short.flat);
        }

    pub borrow_left_fits : (f.left_total + 1 < 2 ^ 64) × (f.left_ones + 1 < 2 ^ 64)
    borrow_left_fits =
        let few = b.short.few in
        let t = tells b.short in
        let most = count_size left_child in
        (omega arith, omega arith)

    pub borrow_left_done : {u w' : List ℕ} {g : Fork} → Edited v u (numbers left_child) (put_after (bit ∷ []) left_child) → g ≡ one_more f bit
        → w' ≡ put u n (fork_cell g) → Lent b w'
    borrow_left_done {u} {w'} {g} e says z =
        let s = b.short in
        let child : Tree = put_after (bit ∷ []) left_child in
        let other : Tree = drop_first right_child in
        let alike = put_after_shape (bit ∷ []) left_child in
        let alike_other = drop_first_shape right_child in
        let total : f.left_total + 1 ≡ size child = ap (λ (k : ℕ). k + 1) (tells s).total ∙ after_size left_child bit in
        let ones : f.left_ones + digit bit ≡ count true (marks child) =
        ap (λ (k : ℕ). k + digit bit) (tells s).ones ∙ after_count left_child bit in
        rw d.marked
        (forked true n left_child right_child child other s.once alike alike_other d.edited e (within s)
        (says ∙ fork_left f left_child child right_child _ _ s.over.is alike total ones ∙ fork_right child right_child other alike_other) z)

-- ---- the last mark of the left child lent to the right one

module _ {w : List ℕ} {n levels : ℕ} {f : Fork} (b : ToBorrow w n levels f false) where
  abbrev first_child : Tree
  first_child = l b.short

  abbrev last_child : Tree
  last_child = r b.short

  pub borrow_right_asks : ToDropLast w (Stepping.left_child f) levels first_child
  borrow_right_asks =
      record { tree = other_editable b.short; total = sym (tells b.short).total; some = let rich = b.rich in omega arith }

  module _ {v : List ℕ} {bit : Bool} (d : Taken w v first_child (last_mark first_child) (drop_last first_child) bit) where
    pub borrow_right_puts : {x : Leaf} → x ≡ leaf_of (bit ∷ []) → ToPutBefore v f.right levels x 1 (bool_byte bit) last_child (bit ∷ [])
    borrow_right_puts held =
        record {
          tree = child_stays b.short d.edited;
          held = held;
          total = refl;
          strikes = rw (count_one bit) (sym (byte_digit bit));
          room = let low = b.short.low in omega (arith, flat_first last_child b.short.flat);
        }

    pub borrow_right_fits : size last_child + 1 < 2 ^ 64
    borrow_right_fits = let few = b.short.few in omega arith

    module _ {u : List ℕ} (e : Edited v u (numbers last_child) (put_before (bit ∷ []) last_child)) where
      pub borrow_right_counted : ToUncount u n true bit
      unfolding digit
      borrow_right_counted =
          record {
            f = f;
            says = top_stays b.short d.edited e;
            total = omega (arith, (tells b.short).total, drop_last_size first_child bit d.marked);
            ones = omega (arith, (tells b.short).ones, drop_last_count first_child bit d.marked);
          }

      pub borrow_right_done : {w' : List ℕ} → w' ≡ put u n (fork_cell (one_less (fork_in (node_at u n)) true bit)) → Lent b w'
      unfolding digit
      borrow_right_done {w'} z =
          let s = b.short in
          let child : Tree = put_before (bit ∷ []) last_child in
          let other : Tree = drop_last first_child in
          let alike = put_before_shape (bit ∷ []) last_child in
          let alike_other = drop_last_shape first_child in
          let total : f.left_total - 1 ≡ size other =
          omega (arith, (tells s).total, drop_last_size first_child bit d.marked) in
          let ones : f.left_ones - digit bit ≡ count true (marks other) =
          omega (arith, (tells s).ones, drop_last_count first_child bit d.marked) in
          let at : fork_in (node_at u n) ≡ f = ap fork_in (top_stays s d.edited e) in
          rw d.marked
          (forked false n first_child last_child child other s.once alike alike_other d.edited e (within s)
          (ap (λ (g : Fork). one_less g true bit) at
          ∙ fork_left f first_child other last_child _ _ s.over.is alike_other total ones ∙ fork_right other last_child child alike) z)
