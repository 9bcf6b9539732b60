-- A remove at a leaf and at a fork: what it may assume there, and what it leaves if its call on the child does. A child
-- of at most 33 marks is a leaf, which has freed nothing and kept its height, so the fork above it stands as mending
-- asks.
use Prim.Native.Nat.{ℕ, suc, ◌+◌, ◌-◌, ◌≤◌, ◌<◌}
use native.Mathlib.Omega.{arith}
use mathlib.Core.Path.{◌≡◌, refl, sym, ap, ◌∙◌}
use mathlib.Core.Bool.{Bool, true, false}
use mathlib.Core.List.Memᴰ
use mathlib.Core.List.{List, [], ◌++◌}
use borrow.Author.Tests.{lt-ltb, le-ltb}
use lib.IntN.{ℤ, pos}
use lib.ListN.{length}
use mir.Syntax.{w64}
use mir.Val.{SFits}
use Rattle.model.specs.Edit.{Trimmed, remove}
use Rattle.model.specs.Marks as Marks
use Rattle.model.specs.Marks.{access, count}
use Rattle.model.specs.Sound.{Balanced, Sized, Whole}
use Rattle.model.specs.Tree.{Tree, fork, top, marks, size, height, numbers}
use Rattle.model.specs.Turn.{rebalance}
use Rattle.model.specs.Word.{digit}
use Rattle.model.proofs.Content.{remove_size}
use Rattle.model.proofs.Distincts.{distinct_apart}
use Rattle.model.proofs.Leaves.{sized_weaken}
use Rattle.model.proofs.Paths.{access_left, access_right}
use Rattle.model.proofs.Rearranged.{rearranged_distinct}
use Rattle.bits.specs.Leaf.{bits_of, leaf_of}
use Rattle.bits.specs.declared.leaf.Leaf.{Leaf}
use Rattle.bits.proofs.Held.{remove_held, access_held}
use Rattle.pool.specs.Layout.{Holds, Rooted, fork_of}
use Rattle.pool.specs.Node.{leaf_cell, fork_cell, fork_in, node_at, put, Put}
use Rattle.pool.specs.declared.node.Fork.{Fork}
use Rattle.pool.specs.declared.node.Node.{Node}
use Rattle.pool.proofs.Cells.{put_fork, fork_says}
use Rattle.pool.proofs.Standing.{chained_same, leaf_small, left_rooted, right_rooted}
use Rattle.spine.proofs.Edits.{edited_leaf}
use Rattle.tree.specs.declared.steps.Step.{Step}
use Rattle.model.specs.Side.{side}
use Rattle.turn.specs.Sites.{After, Site, fork_at_heights}
use Rattle.turn.proofs.Differences.{equal, held, none}
use Rattle.turn.proofs.Sites.{Altered, Around, site_child, around_last, top_apart, top_past, child_member, fork_rearranged}
use Rattle.descent.proofs.Back.{Changed, Levels, ToLevel, after_held, changes, level, leveled, stale_now, to_level}
use Rattle.descent.proofs.Down.{Down, Stepped, Toward, by_step, child_stands, down, is_leaf, side_here, side_other}
use Rattle.shrink.specs.Mending.{Mended, ToMend, ToUncount, mended, one_less}
use Rattle.shrink.specs.Removing.{Gone, ToRemove}
use Rattle.shrink.proofs.Parts.{in_top, wider}
use Rattle.shrink.proofs.Trimming.{Lessened, mend_at, mend_kept, remove_alters, remove_count, remove_top, small_lessened}

-- a change of height is handed on as a word
pub gone_held : {w w' : List ℕ} {n levels head head' total index : ℕ} {bit : Bool} {b : ToRemove w n levels head total index} (g : ℤ)
    → SFits w64 g → Gone b w' head' g bit → Gone b w' head' (held g) bit
gone_held g fits a = record { after = after_held g fits a.after; mark = a.mark }

-- ---- a leaf was read

pub removed_at_leaf : {w w' : List ℕ} {n levels head total index : ℕ} {x y : Leaf} {bit : Bool} (b : ToRemove w n levels head total index)
    → node_at w n ≡ Node.Leaf x → y ≡ leaf_of (Marks.remove index (bits_of x)) → w' ≡ put w n (leaf_cell y) → bit ≡ access index (bits_of x)
    → Gone b w' head (pos 0) bit
unfolding size remove marks height
removed_at_leaf {w} {w'} {n} {levels} {head} {total} {index} {x} {y} b read made stored bit =
    let k = is_leaf b.at.site.rooted read in
    let xs : List Bool = k.marks in
    let site : Site w n levels b.at.end head (Tree.leaf n xs) b.at.free = rw k.is at b.at.site in
    let long : length xs ≡ total = rw k.is at b.at.total_is in
    let small = leaf_small n xs site.rooted in
    let within : index < length xs = omega (arith, b.within) in
    let cut : y ≡ leaf_of (Marks.remove index xs) =
    made ∙ ap (λ (z : Leaf). leaf_of (Marks.remove index (bits_of z))) k.says ∙ remove_held xs index (omega arith) within in
    let done = edited_leaf n xs (Marks.remove index xs) site.rooted cut stored in
    let out = distinct_apart (numbers (Tree.leaf n xs)) b.at.free site.once in
    record {
      after =
          rw k.is
          (record {
            edited = wider (numbers (Tree.leaf n xs) ++ b.at.free) done (λ k i. Memᴰ.append_left b.at.free i);
            chained = chained_same w w' b.at.end b.at.free (λ k i. done.else k (λ j. out k j i)) site.chained;
            first = site.first;
            change = none 0;
          });
      mark = bit ∙ rw k.is (ap (λ (z : Leaf). access index (bits_of z)) k.says ∙ access_held xs index (omega arith));
    }

-- ---- a fork was read

-- what a step to the child that the place leads to says of a remove
record Leads (s : Step) (n i : ℕ) (l r : Tree) : Type 0 where
  mark_same : access i (marks (fork n l r)) ≡ access s.index (marks (side s.left l r))
  removes : remove i (fork n l r) ≡ mend_at s.left n l r (remove s.index (side s.left l r))

leads : {f : Fork} {total i : ℕ} {s : Step} (n : ℕ) (l r : Tree) → f ≡ fork_of l r → Toward f total i s → Leads s n i l r
unfolding fork_of remove marks
leads {i = i} n l r e toward =
    by_step n l r e toward (λ (s : Step). Leads s n i l r)
    (λ k. record { mark_same = access_left l r i k; removes = rw (remove, lt-ltb i (size l) k) })
    (λ k. record { mark_same = access_right l r i k; removes = rw (remove, le-ltb i (size l) k) })

-- the fork with one mark less says all of the trees afterwards but how they lean
discounted : (left : Bool) (f : Fork) (i : ℕ) (b : Bool) (l r : Tree) → f ≡ fork_of l r → i < size (side left l r)
    → b ≡ access i (marks (side left l r))
    → let u : Tree = (remove i (side left l r)).tree in one_less f left b ≡ fork_at_heights (height l) (height r) (side left u l) (side left r u)
unfolding fork_of digit
discounted true f i b l r e h m =
    let u : Tree = (remove i l).tree in
    let total : size l - 1 ≡ size u = omega (arith, remove_size i l h) in
    let ones : count true (marks l) - digit b ≡ count true (marks u) = rw m (omega (arith, remove_count i l h)) in
    rw e (λ j. record {
      left = sym (remove_top i l) j;
      right = top r;
      left_total = total j;
      left_ones = ones j;
      balance = (height r + 2) - height l;
    })
discounted false f i b l r e h m =
    let total : size l - 0 ≡ size l = omega arith in
    let ones : count true (marks l) - 0 ≡ count true (marks l) = omega arith in
    rw e (λ j. record {
      left = top l;
      right = sym (remove_top i r) j;
      left_total = total j;
      left_ones = ones j;
      balance = (height r + 2) - height l;
    })

-- the mark stood in the totals
counted : {w : List ℕ} {n : ℕ} (left : Bool) (f : Fork) (i : ℕ) (b : Bool) (l r : Tree) → node_at w n ≡ Node.Fork f → f ≡ fork_of l r
    → i < size (side left l r) → b ≡ access i (marks (side left l r)) → ToUncount w n left b
unfolding fork_of digit
counted true f i b l r says e h m =
    record { f = f; says = says; total = rw e (omega arith); ones = rw (e, m) (omega (arith, remove_count i l h)) }
counted false f i b l r says e h m = record { f = f; says = says; total = omega arith; ones = omega arith }

-- ---- a short child: the fork as mending asks

-- a child of a whole fork has a mark in its last leaf
side_sized : (left : Bool) (n : ℕ) (l r : Tree) → Whole (fork n l r) → Sized 1 (side left l r)
side_sized true n l r s = sized_weaken 1 33 l (omega arith) s.0
side_sized false n l r s = s.1

-- a child that has kept its height leaves the balance
at_heights : (left : Bool) (l r t : Tree) → height t ≡ height (side left l r)
    → fork_at_heights (height l) (height r) (side left t l) (side left r t) ≡ fork_of (side left t l) (side left r t)
unfolding fork_of
at_heights true l r t e = rw e
at_heights false l r t e = rw e

height_kept : (left : Bool) (n : ℕ) (l r t : Tree) → height t ≡ height (side left l r)
    → height (fork n (side left t l) (side left r t)) ≡ height (fork n l r)
unfolding height
height_kept true n l r t e = rw e
height_kept false n l r t e = rw e

numbers_kept : (left : Bool) (n : ℕ) (l r t : Tree) → numbers t ≡ numbers (side left l r)
    → numbers (fork n (side left t l) (side left r t)) ≡ numbers (fork n l r)
unfolding numbers
numbers_kept true n l r t e = rw e
numbers_kept false n l r t e = rw e

-- one mark less
size_less : (left : Bool) (n total : ℕ) (l r t : Tree) → suc (size t) ≡ size (side left l r) → size (fork n l r) ≡ total
    → size (side left t l) + size (side left r t) ≡ total - 1
unfolding size
size_less true n total l r t e z = omega arith
size_less false n total l r t e z = omega arith

-- a flat child has a flat neighbour, or one of a single level
near_other : (left : Bool) (n : ℕ) (l r : Tree) → Balanced (fork n l r) → height (side left l r) ≡ 0 → height (side left r l) ≤ 1
near_other true n l r b e = omega arith
near_other false n l r b e = omega arith

flat_sized : (t : Tree) → height t ≡ 0 → size t ≤ 127 → Sized 0 t
unfolding height size
flat_sized (Tree.leaf n xs) e h = (omega arith, h)
flat_sized (Tree.fork n l r) e h = absurd (omega arith)

-- both children stand, where the one is a leaf now
roots : {w v : List ℕ} {n levels : ℕ} (left : Bool) (l r t : Tree) → Rooted w n levels (fork n l r) → Holds v (side left t l)
    → Holds v (side left r t) → height t ≡ 0 → size t ≤ 127
    → Rooted v (top (side left t l)) (levels - 1) (side left t l) × Rooted v (top (side left r t)) (levels - 1) (side left r t)
roots {n = n} true l r t h a b flat small =
    let other = right_rooted n l r h in (
      record { at = refl; holds = a; deep = omega arith; sized = flat_sized t flat small },
      record { at = refl; holds = b; deep = other.deep; sized = other.sized },
    )
roots {n = n} false l r t h a b flat small =
    let other = left_rooted n l r h in (
      record { at = refl; holds = a; deep = other.deep; sized = other.sized },
      record { at = refl; holds = b; deep = omega arith; sized = flat_sized t flat small },
    )

-- mending where nothing was freed
mends : (left : Bool) (n : ℕ) (l r : Tree) (u : Trimmed) → u.freed ≡ []
    → mend_at left n l r u ≡ mended left n (side left u.tree l) (side left r u.tree)
mends true n l r u e = rw e
mends false n l r u e = rw e

-- ---- the child, and the fork above it

-- what is put over a fork that is read
fork_put : {w v : List ℕ} {n : ℕ} {f g : Fork} → node_at w n ≡ Node.Fork f → v ≡ put w n (fork_cell g) → Put w v n (Node.Fork g)
fork_put {w} {v} {n} {f} {g} read e = rw e (put_fork w n g (fork_says w n f read).0)

module _ {w : List ℕ} {n levels head total index : ℕ} {f : Fork} {s : Step}
    (p : Stepped w n total index f s) (b : ToRemove w n levels head total index) where
  d : Down b.at index f s
  d = down b.at p

  abbrev l : Tree
  l = d.l

  abbrev r : Tree
  r = d.r

  -- the child that the place leads to, and what a remove makes of it and of the chain
  abbrev old : Tree
  old = side s.left l r

  abbrev cut : Trimmed
  cut = remove s.index old

  abbrev new : Tree
  new = cut.tree

  abbrev free' : List ℕ
  free' = cut.freed ++ b.at.free

  -- both children afterwards
  abbrev first : Tree
  first = side s.left new l

  abbrev second : Tree
  second = side s.left r new

  way : Leads s n index l r
  way = leads n l r d.says p.toward

  in_child : s.index < size old
  in_child = omega (arith, d.child.below b.within, d.child.total_is)

  less : suc (size new) ≡ size old
  less = remove_size s.index old in_child

  -- the mark can be taken out of the child
  pub to_child : ToRemove w s.child.node (levels - 1) head s.child.length s.index
  to_child = record { at = child_stands b.at d (λ k m. refl); within = d.child.below b.within }

  module _ {v : List ℕ} {head' : ℕ} {by : ℤ} {bit : Bool} (done : Gone to_child v head' by bit) where
    gone : After w v b.at.end head' by old new b.at.free free'
    unfolding to_child
    gone = done.after

    mark_there : bit ≡ access s.index (marks old)
    unfolding to_child
    mark_there = done.mark

    marked : bit ≡ access index (marks b.at.tree)
    marked = rw d.is (mark_there ∙ sym way.mark_same)

    altered : Altered old new b.at.free free'
    altered =
        let c = site_child s.left l r b.at.free d.site (λ k m. refl) in
        remove_alters s.index old b.at.free in_child c.whole c.balanced

    stays : node_at v n ≡ Node.Fork f
    stays = gone.edited.else n (top_apart s.left n l r b.at.free d.site.once) ∙ p.read

    -- the totals have the mark still
    pub to_uncount : ToUncount v n s.left bit
    to_uncount = counted s.left f s.index bit l r stays d.says in_child mark_there

    module _ {v' : List ℕ} (stored : v' ≡ put v n (fork_cell (one_less (fork_in (node_at v n)) s.left bit))) where
      placed : Put v v' n (Node.Fork (one_less f s.left bit))
      placed = fork_put stays (stored ∙ ap (λ (x : Node). put v n (fork_cell (one_less (fork_in x) s.left bit))) stays)

      changed : Changed w v' n b.at.end head' by s.left l r new b.at.free free'
      changed =
          changes b.at d altered
          (around_last gone placed (top_past s.left n l r new b.at.free free' d.site.once altered.numbers_are))
          (placed.here ∙ ap Node.Fork (discounted s.left f s.index bit l r d.says in_child mark_there))

      -- ---- a child that is not short: the fork is balanced

      module _ (long : 33 < s.child.length) where
        whole : {x : List ℕ} {grown : ℤ} → After w x b.at.end head' grown (fork n l r) (rebalance n first second) b.at.free free'
            → Gone b x head' grown bit
        whole a =
            let kept = mend_kept s.left n l r cut (omega (arith, less, d.child.total_is)) in
            record { after = rw (d.is, way.removes ∙ kept) a; mark = marked }

        -- a child that has kept its height
        pub remove_level : by ≡ pos 0 → Gone b v' head' (pos 0) bit
        remove_level zero = whole (level changed zero)

        -- one that has changed it: the fork says all but how it leans now, and is balanced again
        pub remove_stale : ToLevel v' n s.left by
        remove_stale = to_level changed

        pub remove_leveled : {x : List ℕ} {grown : ℤ} → Levels v' x n s.left by grown → Gone b x head' grown bit
        remove_leveled levels = whole (leveled changed levels)

      -- ---- a short one: the fork is mended

      module _ (few : s.child.length ≤ 33) where
        lessened : Lessened old cut
        lessened =
            small_lessened 1 s.index old (omega arith) (side_sized s.left n l r d.site.whole) (omega (arith, d.child.total_is))

        level_kept : height new ≡ height old
        level_kept = lessened.left_flat ∙ sym lessened.flat

        free_kept : free' ≡ b.at.free
        free_kept = ap (λ (xs : List ℕ). xs ++ b.at.free) lessened.none

        around : Around w v' n b.at.end head' by old new b.at.free b.at.free
        around = rw free_kept at changed.around

        pub to_mend : ToMend v' n (levels - 1) head' s.left (total - 1)
        unfolding fork_of
        to_mend =
            let st = stale_now changed in
            let flat = lessened.left_flat in
            let small : size new ≤ 32 = omega (arith, less, d.child.total_is) in
            let trees = roots s.left l r new d.site.rooted st.left_holds st.right_holds flat (omega arith) in
            let moved = fork_rearranged s.left n l r new b.at.free free' altered.numbers_are in
            record {
              f = fork_of first second;
              short =
                  record {
                    over = record { l = first; r = second; is = refl; left_rooted = trees.0; right_rooted = trees.1 };
                    says = changed.says ∙ ap Node.Fork (at_heights s.left l r new level_kept);
                    once = st.once;
                    few = st.few;
                    low = rw (side_here s.left new l r) small;
                    flat = rw (side_here s.left new l r) flat;
                    near = rw (side_other s.left new l r) (near_other s.left n l r d.site.balanced lessened.flat);
                  };
              end = b.at.end;
              free = b.at.free;
              once = rw free_kept at (rearranged_distinct _ _ moved d.site.once);
              chained = around.chained;
              first = around.first;
              total_is = size_less s.left n total l r new less d.total_is;
            }

        pub remove_mended : {x : List ℕ} {head'' : ℕ} {grown : ℤ} → Mended to_mend x head'' grown → Gone b x head'' grown bit
        unfolding to_mend
        remove_mended {x} {head''} {grown} a =
            let same = numbers_kept s.left n l r new lessened.numbers_same in
            let inside = child_member s.left n l r b.at.free d.site.once in
            record {
              after =
                  rw (d.is, way.removes ∙ mends s.left n l r cut lessened.none)
                  (record {
                    edited =
                        record {
                          size = a.edited.size ∙ around.size;
                          holds = a.edited.holds;
                          else = λ j out.
                              a.edited.else j (λ i. out (rw same at i))
                              ∙ around.else j (λ k. out (Memᴰ.append_left b.at.free (in_top n l r j k))) (λ i. out (inside j i));
                        };
                    chained = a.chained;
                    first = a.first;
                    change = equal grown _ _ a.change refl (height_kept s.left n l r new level_kept);
                  });
              mark = marked;
            }
