-- No leaf is more than 12 levels down: a balanced tree of 13 levels has 610 leaves or more, and 1,023 nodes have room for 512.
-- A subtree of few levels holds few marks, so every count fits a word.
use Prim.Native.Nat.{ℕ, zero, suc, ◌+◌, ◌-◌, ◌*◌, ◌^◌, ◌≤◌, ◌<◌, max}
use native.Mathlib.Nat.{le_refl, le_trans, le-suc, zero-add, suc-add, max-eq_left, max-eq_right, eq-or-lt_of_le}
use native.Mathlib.Omega.{arith}
use mathlib.Core.Path.{◌≡◌, refl}
use mathlib.Core.Bool.{Bool}
use mathlib.Core.List.{◌++◌}
use mathlib.Core.Logic.{⊎_elim}
use lib.ListN.{length, length-append}
use lib.Pow.{pow_pos}
use Rattle.model.specs.Limits.{most_nodes, levels}
use Rattle.model.specs.Pool.{Pool, numbers_from}
use Rattle.model.specs.Sound.{Balanced, Sized, Sound, all_numbers}
use Rattle.model.specs.Marks.{count}
use Rattle.model.specs.Tree.{Tree, leaf, fork, marks, size, height, numbers, leaf_total, fewest_leaves}
use Rattle.model.specs.Walk.{Within, steps_to, steps_for}
use Rattle.model.proofs.Cases.{by_leb, by_ltb}
use Rattle.model.proofs.NumbersFrom.{numbers_from_length}
use Rattle.model.proofs.Rearranged.{rearranged_length}

-- higher trees have more leaves
fewest_step : (h : ℕ) → fewest_leaves h ≤ fewest_leaves (suc h)
unfolding fewest_leaves
fewest_step zero = omega arith
fewest_step (suc h) = omega arith

fewest_mono : (k h : ℕ) → fewest_leaves h ≤ fewest_leaves (k + h)
fewest_mono zero h = rw zero-add (le_refl (fewest_leaves h))
fewest_mono (suc k) h = rw suc-add (le_trans (fewest_mono k h) (fewest_step (k + h)))

-- two trees of one height, and two that differ by one level
fewest_level : (h : ℕ) → fewest_leaves (suc h) ≤ fewest_leaves h + fewest_leaves h
unfolding fewest_leaves
fewest_level zero = omega arith
fewest_level (suc h) = omega (arith, fewest_step h)

fewest_join : (a b x y : ℕ) → a ≤ suc b → b ≤ suc a → fewest_leaves a ≤ x → fewest_leaves b ≤ y → fewest_leaves (suc (max a b)) ≤ x + y
unfolding fewest_leaves
fewest_join a b x y h l p q = by_leb a b (λ _ k. ⊎_elim level right (eq-or-lt_of_le k)) (λ _ k. left k)
  where
    level : a ≡ b → fewest_leaves (suc (max a b)) ≤ x + y
    level e = rw (e, max-eq_left (le_refl b)) (omega (arith, fewest_level b, rw e at p))

    right : a < b → fewest_leaves (suc (max a b)) ≤ x + y
    right k = let e : b ≡ suc a = omega arith in rw (e, max-eq_right (le-suc a)) (omega (arith, rw e at q))

    left : b < a → fewest_leaves (suc (max a b)) ≤ x + y
    left k = let e : a ≡ suc b = omega arith in rw (e, max-eq_left (le-suc b)) (omega (arith, rw e at p))

pub fewest : (t : Tree) → Balanced t → fewest_leaves (height t) ≤ leaf_total t
unfolding height leaf_total fewest_leaves
fewest (leaf n xs) b = omega arith
fewest (fork n l r) b = fewest_join (height l) (height r) (leaf_total l) (leaf_total r) b.2 b.3 (fewest l b.0) (fewest r b.1)

-- a tree has one node fewer than twice its leaves
pub node_total : (t : Tree) → suc (length (numbers t)) ≡ 2 * leaf_total t
unfolding numbers leaf_total
node_total (leaf n xs) = refl
node_total (fork n l r) = omega (arith, node_total l, node_total r, length-append (numbers l) (numbers r))

-- no leaf of a sound pool is more than 12 levels down
pub depth : (n : ℕ) (p : Pool) → n ≤ most_nodes → Sound n p → height p.tree ≤ levels
unfolding all_numbers fewest_leaves
depth n p h s = by_leb (height p.tree) levels (λ _ k. k) (λ _ k. absurd (deep k))
  where
    deep : levels < height p.tree → ⊥
    deep k =
        let nodes : length (numbers_from 0 n) ≡ length (numbers p.tree ++ p.free) =
        rearranged_length (numbers_from 0 n) (numbers p.tree ++ p.free) s.each in
        let split : length (numbers p.tree ++ p.free) ≡ length (numbers p.tree) + length p.free =
        length-append (numbers p.tree) p.free in
        let few : fewest_leaves 13 ≤ fewest_leaves ((height p.tree - 13) + 13) = fewest_mono (height p.tree - 13) 13 in
        let back : (height p.tree - 13) + 13 ≡ height p.tree = omega arith in
        omega (arith, node_total p.tree, fewest p.tree s.balanced, rw back at few, numbers_from_length 0 n)

-- ---- how far a question goes down

-- a tree is as high as its lowest leaf is deep
pub all_within : (k : ℕ) (t : Tree) → height t ≤ k → Within k t
unfolding height
all_within k (leaf n xs) h = tt
all_within zero (fork n l r) h = absurd (omega arith)
all_within (suc k) (fork n l r) h = (all_within k l (omega arith), all_within k r (omega arith))

-- a walk to a place, and one to the k-th mark of a kind, take no more steps than the tree has levels
pub steps_to_height : (i : ℕ) (t : Tree) → steps_to i t ≤ height t
unfolding steps_to height
steps_to_height i (leaf n xs) = omega arith
steps_to_height i (fork n l r) =
    by_ltb i (size l)
    (λ e _. rw (steps_to, e) (omega (arith, steps_to_height i l)))
    (λ e _. rw (steps_to, e) (omega (arith, steps_to_height (i - size l) r)))

pub steps_for_height : (b : Bool) (k : ℕ) (t : Tree) → steps_for b k t ≤ height t
unfolding steps_for height
steps_for_height b k (leaf n xs) = omega arith
steps_for_height b k (fork n l r) =
    by_leb k (count b (marks l))
    (λ e _. rw (steps_for, e) (omega (arith, steps_for_height b k l)))
    (λ e _. rw (steps_for, e) (omega (arith, steps_for_height b (k - count b (marks l)) r)))

module _ (n : ℕ) (p : Pool) (most : n ≤ most_nodes) (s : Sound n p) where
  -- every leaf of a sound pool is at most 12 levels down
  pub leaves_within : Within levels p.tree
  leaves_within = all_within levels p.tree (depth n p most s)

  -- access, rank, an insert and a remove take at most 12 steps down to the leaf of their place
  pub place_in_twelve : (i : ℕ) → steps_to i p.tree ≤ levels
  place_in_twelve i = le_trans (steps_to_height i p.tree) (depth n p most s)

  -- and so does select, to the leaf of the mark that it looks for
  pub select_in_twelve : (b : Bool) (k : ℕ) → steps_for b k p.tree ≤ levels
  select_in_twelve b k = le_trans (steps_for_height b k p.tree) (depth n p most s)

-- ---- how much a tree holds

-- a tree of few levels holds few marks
pub size_bound : (least : ℕ) (t : Tree) (h : ℕ) → Sized least t → height t ≤ h → size t ≤ 127 * 2 ^ h
unfolding size height
size_bound least (leaf n xs) h s k = omega (arith, pow_pos h)
size_bound least (fork n l r) zero s k = absurd (omega arith)
size_bound least (fork n l r) (suc h) s k = omega (arith, size_bound 33 l h s.0 (omega arith), size_bound least r h s.1 (omega arith))
