-- How many marks a pool holds at the least when an insert finds no room. The leaf that it leads to holds 127, every other but the rightmost 33 or
-- more, the rightmost one or more, and fewer than two nodes are free, so the leaves are as many as the nodes allow.
use Prim.Native.Nat.{ℕ, zero, suc, ◌+◌, ◌-◌, ◌*◌, ◌≤◌, ◌<◌}
use native.Mathlib.Omega.{arith}
use mathlib.Core.Path.{◌≡◌, sym, ◌∙◌}
use mathlib.Core.Bool.{Bool, true, false}
use lib.ListN.{length, length-append}
use Rattle.model.specs.Edit.{leaf_at, splits, leaf_split}
use Rattle.model.specs.Limits.{most_leaves, most_nodes, floor_for, least_full}
use Rattle.model.specs.Pool.{Pool, full, numbers_from, two_free}
use Rattle.model.specs.Edit.{leaf_least}
use Rattle.model.specs.Sound.{Sized, Sound, Whole, leaf_most, all_numbers}
use Rattle.model.specs.Tree.{Tree, leaf, fork, size, leaf_total, numbers}
use Rattle.model.proofs.Cases.{by_leb, by_ltb, by_test}
use Rattle.model.proofs.Depth.{node_total}
use Rattle.model.proofs.Leaves.{sized_weaken}
use Rattle.model.proofs.NumbersFrom.{numbers_from_length}
use Rattle.model.proofs.PoolCases.{two_free_no, two_free_yes}
use Rattle.model.proofs.Rearranged.{rearranged_length}

-- the leaf that a place leads to is within the bounds
pub leaf_at_most : (least i : ℕ) (t : Tree) → Sized least t → length (leaf_at i t) ≤ leaf_most
unfolding leaf_at
leaf_at_most least i (leaf n xs) s = s.1
leaf_at_most least i (fork n l r) s =
    by_ltb i (size l)
    (λ e h. rw (leaf_at, e) (leaf_at_most leaf_least i l s.0))
    (λ e h. rw (leaf_at, e) (leaf_at_most least (i - size l) r s.1))

-- every leaf but the rightmost holds 33 marks or more
pub least_size : (least : ℕ) (t : Tree) → Sized least t → 33 * leaf_total t + least ≤ size t + 33
unfolding leaf_total size
least_size least (leaf n xs) s = omega (arith, s.0)
least_size least (fork n l r) s = omega (arith, least_size 33 l s.0, least_size least r s.1)

-- and one of them 127
pub full_size : (least i : ℕ) (t : Tree) → least ≤ 33 → Sized least t → length (leaf_at i t) ≡ 127 → 33 * leaf_total t + 94 + least ≤ size t + 33
unfolding leaf_at leaf_total size
full_size least i (leaf n xs) few s = λ e. omega arith
full_size least i (fork n l r) few s =
    by_ltb i (size l)
    (λ e h. rw (leaf_at, e) (λ (k : length (leaf_at i l) ≡ 127). omega (arith, full_size 33 i l (omega arith) s.0 k, least_size least r s.1)))
    (λ e h. rw (leaf_at, e) (λ (k : length (leaf_at (i - size l) r) ≡ 127).
    omega (arith, least_size 33 l s.0, full_size least (i - size l) r few s.1 k)))

-- ---- a whole pool

-- tree nodes and free nodes are as many as the pool has
pub sound_nodes : (n : ℕ) (p : Pool) → Sound n p → length (numbers p.tree) + length p.free ≡ n
unfolding all_numbers
sound_nodes n p s =
    sym (length-append (numbers p.tree) p.free) ∙ sym (rearranged_length (numbers_from 0 n) (all_numbers p) s.each) ∙ numbers_from_length 0 n

-- fewer than two of the nodes are free: the leaves are as many as the nodes allow
pub sound_leaves : (n : ℕ) (p : Pool) → Sound n p → length p.free < 2 → leaf_total p.tree ≡ most_leaves n
sound_leaves n p s few = omega (arith, sound_nodes n p s, node_total p.tree)

-- no room: the leaf holds 127, and fewer than two nodes are free
pub full_means : (least i : ℕ) (p : Pool) → Sized least p.tree → full (two_free p) i p ≡ true
    → (length (leaf_at i p.tree) ≡ 127) × (length p.free < 2)
unfolding full splits
full_means least i p s =
    by_leb leaf_split (suc (length (leaf_at i p.tree)))
    (λ e h. by_test (two_free p)
    (λ f x. never (sym (rw (full, splits, e, f) at x)))
    (λ f _. (omega (arith, leaf_at_most least i p.tree s), two_free_no p f)))
    (λ e h x. never (sym (rw (full, splits, e) at x)))
  where
    never : {A : Type 0} → ◌≡◌ {A = Bool} true false → A
    never e = let z : ◌≡◌ {A = ℕ} 0 1 = cc in absurd (omega arith)

-- and the other way round
pub means_full : (i : ℕ) (p : Pool) → length (leaf_at i p.tree) ≡ 127 → length p.free < 2 → full (two_free p) i p ≡ true
unfolding full splits
means_full i p e few =
    by_leb leaf_split (suc (length (leaf_at i p.tree)))
    (λ f h. by_test (two_free p) (λ g. absurd (omega (arith, two_free_yes p g))) (λ g. simp (full, splits, f, g)))
    (λ f h. absurd (omega arith))

several : (leaves s : ℕ) → 2 ≤ leaves → 33 * leaves + 62 ≤ s → floor_for leaves ≤ s
unfolding floor_for
several zero s h k = absurd (omega arith)
several (suc zero) s h k = absurd (omega arith)
several (suc (suc leaves)) s h k = omega arith

pub leaves_some : (t : Tree) → 1 ≤ leaf_total t
unfolding leaf_total
leaves_some (leaf n xs) = omega arith
leaves_some (fork n l r) = omega (arith, leaves_some l)

floor_tree : (i leaves : ℕ) (t : Tree) → Whole t → length (leaf_at i t) ≡ 127 → leaf_total t ≡ leaves → floor_for leaves ≤ size t
unfolding leaf_total floor_for leaf_at size
floor_tree i leaves (leaf n xs) w e k = rw (sym k) (omega arith)
floor_tree i leaves (fork n l r) w e k =
    several leaves (size (fork n l r)) (omega (arith, leaves_some l, leaves_some r)) (omega (arith, full_size 1 i (fork n l r) (omega arith) w e))

-- a whole tree has no leaf too full
pub whole_sized : (t : Tree) → Whole t → Sized 0 t
whole_sized (leaf n xs) w = w
whole_sized (fork n l r) w = sized_weaken 0 1 (fork n l r) (omega arith) w

-- an insert finds no room only in a pool that holds so many marks
pub floor : (n i : ℕ) (p : Pool) → Sound n p → full (two_free p) i p ≡ true → least_full n ≤ size p.tree
floor n i p s e =
    let m = full_means 0 i p (whole_sized p.tree s.whole) e in
    floor_tree i (most_leaves n) p.tree s.whole m.0 (sound_leaves n p s m.1)

-- for a window's pool
pub floor_window : least_full most_nodes ≡ 16958
unfolding floor_for
floor_window = omega arith
