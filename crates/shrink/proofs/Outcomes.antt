-- What a mended fork is in each case, and what the words hold then. The mended child is a leaf, so a merge lowers the
-- fork by one level, and after a loan the fork needs no turn.
use Prim.Native.Nat.{ℕ, suc, ◌≤◌, ◌<◌}
use native.Mathlib.Omega.{arith}
use mathlib.Core.Path.{◌≡◌, refl, sym, ap, ◌∙◌}
use mathlib.Core.Bool.{Bool, true, false}
use mathlib.Core.List.Memᴰ
use mathlib.Core.List.{List, [], ◌∷◌, ◌++◌, Memᴰ}
use mathlib.Core.Logic.{⊎_elim}
use lib.IntN.{pos, negsuc}
use lib.ListN.{length}
use Rattle.model.specs.Edit.{Trimmed, put_before, put_after, drop_first, drop_last, first_mark, last_mark}
use Rattle.model.specs.Sound.{Distinct}
use Rattle.model.specs.Tree.{Tree, top, size, height, numbers, renumber}
use Rattle.model.proofs.Balance.{rebalance_level}
use Rattle.model.proofs.Cases.{mend_left_cases, mend_right_cases}
use Rattle.model.proofs.Distincts.{distinct_apart}
use Rattle.model.proofs.Shape.{shape, alike_height, alike_numbers, alike_top, renumber_height}
use Rattle.model.proofs.Shape.{put_before_shape, put_after_shape, drop_first_shape, drop_last_shape}
use Rattle.pool.specs.Layout.{Holds, first_of, fork_of}
use Rattle.pool.specs.Node.{fork_in, free_cell, node_at, put}
use Rattle.pool.specs.declared.node.Fork.{Fork}
use Rattle.pool.specs.declared.node.Node.TheVariants.{Fork as fork}
use Rattle.pool.proofs.Standing.{chained_same}
use Rattle.model.specs.Side.{side}
use Rattle.turn.proofs.Differences.{equal, negated, none, same, some}
use Rattle.shrink.specs.Mending.{Lent, Mended, Merged, Over, Short, ToBorrow, ToMeasure, ToMend, ToMerge}
use Rattle.shrink.specs.Mending.{both_freed, joined, lent, mended, next_leaf}
use Rattle.shrink.proofs.Joining.{joined_shape}
use Rattle.shrink.proofs.Parts.{top_in, renumbered, in_other, in_top, wider, freed_edited, freed_chained}
use Rattle.shrink.proofs.Parts.{apart, once_other, top_not_child, top_not_other}

-- ---- the tree

-- a fork stands balanced while one child has no height and the other at most one level
levels_near : (left : Bool) (l r : Tree) → height (side left l r) ≡ 0 → height (side left r l) ≤ 1
    → (height l ≤ suc (height r)) × (height r ≤ suc (height l))
levels_near true l r flat near = (omega arith, omega arith)
levels_near false l r flat near = (omega arith, omega arith)

joined_is : (left : Bool) (n : ℕ) (l r : Tree) → size (side left l r) ≤ 32 → length (next_leaf left l r) ≤ 33
    → mended left n l r ≡ record { tree = renumber n (joined left l r); freed = top r ∷ top l ∷ [] }
joined_is true n l r low lean =
    mend_left_cases (λ (u : Trimmed). u ≡ record { tree = renumber n (joined true l r); freed = top r ∷ top l ∷ [] }) n
    (record { tree = l; freed = [] }) r
    (λ _ _. refl) (λ _ rich. absurd (omega arith)) (λ large. absurd (omega arith))
joined_is false n l r low lean =
    mend_right_cases (λ (u : Trimmed). u ≡ record { tree = renumber n (joined false l r); freed = top r ∷ top l ∷ [] }) n l
    (record { tree = r; freed = [] })
    (λ _ _. refl) (λ _ rich. absurd (omega arith)) (λ large. absurd (omega arith))

-- the heights of the children after a loan
lent_heights : (left : Bool) (n : ℕ) (l r : Tree) → height (lent left n l r) ≡ height (Tree.fork n l r)
unfolding height
lent_heights true n l r =
    rw (alike_height (put_after (first_mark r) l) l (put_after_shape (first_mark r) l), alike_height (drop_first r) r (drop_first_shape r))
lent_heights false n l r =
    rw (alike_height (drop_last l) l (drop_last_shape l), alike_height (put_before (last_mark l) r) r (put_before_shape (last_mark l) r))

lent_is : (left : Bool) (n : ℕ) (l r : Tree) → size (side left l r) ≤ 32 → 33 < length (next_leaf left l r)
    → (height l ≤ suc (height r)) × (height r ≤ suc (height l)) → mended left n l r ≡ record { tree = lent left n l r; freed = [] }
lent_is true n l r low rich near =
    let hl = alike_height (put_after (first_mark r) l) l (put_after_shape (first_mark r) l) in
    let hr = alike_height (drop_first r) r (drop_first_shape r) in
    mend_left_cases (λ (u : Trimmed). u ≡ record { tree = lent true n l r; freed = [] }) n (record { tree = l; freed = [] }) r
    (λ _ lean. absurd (omega arith))
    (λ _ _. rw (rebalance_level n (put_after (first_mark r) l) (drop_first r) (omega arith) (omega arith)))
    (λ large. absurd (omega arith))
lent_is false n l r low rich near =
    let hl = alike_height (drop_last l) l (drop_last_shape l) in
    let hr = alike_height (put_before (last_mark l) r) r (put_before_shape (last_mark l) r) in
    mend_right_cases (λ (u : Trimmed). u ≡ record { tree = lent false n l r; freed = [] }) n l (record { tree = r; freed = [] })
    (λ _ lean. absurd (omega arith))
    (λ _ _. rw (rebalance_level n (drop_last l) (put_before (last_mark l) r) (omega arith) (omega arith)))
    (λ large. absurd (omega arith))

-- a merge lowers the fork by a level
joined_height : (left : Bool) (n : ℕ) (l r t : Tree) → height (side left l r) ≡ 0 → height t ≡ height (side left r l)
    → suc (height t) ≡ height (Tree.fork n l r)
unfolding height
joined_height true n l r t flat same = omega arith
joined_height false n l r t flat same = omega arith

-- ---- the numbers

both_tops : (left : Bool) (k : ℕ) (l r : Tree) → (k ≡ top (side left l r) → ⊥) → (k ≡ top (side left r l) → ⊥)
    → (k ≡ top l → ⊥) × (k ≡ top r → ⊥)
both_tops true k l r a b = (a, b)
both_tops false k l r a b = (b, a)

module _ (left : Bool) (n : ℕ) (l r : Tree) (once : Distinct (numbers (Tree.fork n l r))) where
  other_parts : (k : ℕ) → Memᴰ k (n ∷ numbers (side left r l)) → Memᴰ k (numbers (Tree.fork n l r))
  other_parts k i = ⊎_elim (in_top n l r k) (in_other n l r left k) (Memᴰ.cases_cons i)

  -- a number of the joined tree is neither child's top
  other_stays : (u : Tree) → shape u ≡ shape (side left r l) → (k : ℕ) → Memᴰ k (numbers (renumber n u))
      → (k ≡ top l → ⊥) × (k ≡ top r → ⊥)
  other_stays u s k i =
      let child = side left l r in
      let other = side left r l in
      let same : numbers u ≡ numbers other = alike_numbers u other s in
      ⊎_elim
      (λ e.
      both_tops left k l r
      (λ a. top_not_child n l r once left (top child) (top_in child) (sym a ∙ e))
      (λ b. top_not_other n l r once left (top other) (top_in other) (sym b ∙ e)))
      (λ j.
      both_tops left k l r
      (λ a. apart n l r once left k (Memᴰ.cast a (top_in child)) (rw same at j.0))
      (λ b. j.1 (b ∙ sym (alike_top u other s))))
      (renumbered n u (rw same (once_other n l r once left)) k i)

-- ---- a fork that was read

-- the trees are those of the fork that was read, by whatever name
abbrev pub over_read : {w : List ℕ} {levels : ℕ} {f g : Fork} → g ≡ f → Over w levels f → Over w levels g
over_read e o = record { l = o.l; r = o.r; is = e ∙ o.is; left_rooted = rw e o.left_rooted; right_rooted = rw e o.right_rooted }

abbrev pub short_read : {w : List ℕ} {n levels : ℕ} {f g : Fork} {left : Bool} → g ≡ f → Short w n levels f left → Short w n levels g left
short_read e s =
    record {
      over = over_read e s.over;
      says = s.says ∙ ap fork (sym e);
      once = s.once;
      few = s.few;
      low = s.low;
      flat = s.flat;
      near = s.near;
    }

module _ {w : List ℕ} {n levels head total : ℕ} {left : Bool} (b : ToMend w n levels head left total) where
  abbrev l : Tree
  l = b.short.over.l

  abbrev r : Tree
  r = b.short.over.r

  pub fork_read : {g : Fork} → g ≡ fork_in (node_at w n) → g ≡ b.f
  fork_read e = e ∙ ap fork_in b.short.says

  module _ {g : Fork} (read : g ≡ b.f) where
    abbrev pub to_measure : ToMeasure w levels g total
    to_measure = record { over = over_read read b.short.over; total_is = b.total_is }

    abbrev pub to_merge : length (next_leaf left l r) ≤ 33 → ToMerge w n levels g left
    to_merge lean = record { short = short_read read b.short; lean = lean }

    abbrev pub to_borrow : 33 < length (next_leaf left l r) → ToBorrow w n levels g left
    to_borrow rich = record { short = short_read read b.short; rich = rich }

    -- a merge, and then both numbers put in the chain
    pub mend_joined : {v w' : List ℕ} {head' : ℕ} (lean : length (next_leaf left l r) ≤ 33) → Merged (to_merge lean) v → head' ≡ g.right
        → w' ≡ both_freed v head g → Mended b w' head' (negsuc 0)
    unfolding fork_of first_of
    mend_joined {v} {w'} {head'} lean e at z =
        let s = b.short in
        let over : g ≡ fork_of l r = read ∙ s.over.is in
        let t : Tree = joined left l r in
        let alike = joined_shape left l r in
        let high = joined_height left n l r t s.flat (alike_height t (side left r l) alike) in
        let z' : w' ≡ put (put v (top l) (free_cell head)) (top r) (free_cell (top l)) = rw over at z in
        let stays = other_stays left n l r s.once t alike in
        let holds : Holds w (Tree.fork n l r) = (s.says ∙ ap fork s.over.is, s.over.left_rooted.holds, s.over.right_rooted.holds) in
        let e' = wider (numbers (Tree.fork n l r)) e (other_parts left n l r s.once) in
        rw (joined_is left n l r s.low lean)
        (record {
          edited = freed_edited n head l r (renumber n t) b.free b.once holds stays e' z';
          chained = freed_chained n head l r (renumber n t) b.free b.once holds stays e' z' b.end b.chained b.first;
          first = sym (rw over at at);
          change = same (negsuc 0) _ _ (negated (pos 1) (some 1)) (omega (arith, high, renumber_height n t));
        })

    -- a loan changes no number of the chain
    pub mend_lent : {w' : List ℕ} (rich : 33 < length (next_leaf left l r)) → Lent (to_borrow rich) w' → Mended b w' head (pos 0)
    mend_lent {w'} rich e =
        let s = b.short in
        rw (lent_is left n l r s.low rich (levels_near left l r s.flat s.near))
        (record {
          edited = wider (numbers (Tree.fork n l r) ++ b.free) e (λ k i. Memᴰ.append_left b.free i);
          chained =
              chained_same w w' b.end b.free
              (λ k i. e.else k (λ j. distinct_apart (numbers (Tree.fork n l r)) b.free b.once k j i)) b.chained;
          first = b.first;
          change = equal (pos 0) _ _ (none (height (Tree.fork n l r))) (sym (lent_heights left n l r)) refl;
        })
