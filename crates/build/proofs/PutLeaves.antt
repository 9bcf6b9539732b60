-- The leaves as they are put, one after the other, from the end of their row on: the last one put is the first of the row.
use Prim.Native.Nat.{ℕ, suc, ◌+◌, ◌-◌, ◌*◌, ◌≤◌, ◌<◌}
use native.Mathlib.Omega.{arith}
use mathlib.Core.Path.{◌≡◌, ap, ◌∙◌}
use mathlib.Core.Bool.{Bool}
use mathlib.Core.List.{List, [], ◌∷◌, reverse, reverse_aux}
use lib.ListN.{length, take, drop, length-drop, length-reverse, length-take}
use lib.Seq.{drop-drop}
use Rattle.model.specs.Build.{built_leaves, leaf_count}
use Rattle.model.specs.Tree.{Tree, leaf, size}
use Rattle.model.proofs.Rounds.{built_leaves_length}
use Rattle.bits.specs.Leaf.{leaf_of}
use Rattle.pool.specs.Node.{Put, leaf_cell, nodes_in, put}
use Rattle.pool.specs.declared.node.Node.TheVariants as Node
use Rattle.pool.proofs.Cells.{put_leaf}
use Rattle.build.specs.Waiting.{Along, FitsLeft, Level, Waiting, Waits, leaf_row}
use Rattle.build.specs.declared.building.Item.{Item}
use Rattle.build.proofs.Joining.{along_kept, leaf_waits, put_kept}
use Rattle.build.proofs.OneRound.{leaf_full}

-- the first i of so many leaves of these marks stand in the words, the last of them first in the row
pub record Begun (w : List ℕ) (xs : List Bool) (leaves i : ℕ) : Type 0 where
  pub seen : List Tree
  pub all : reverse_aux (built_leaves i (leaves - i) (drop (i * 64) xs)) seen ≡ reverse (built_leaves 0 leaves xs)
  pub trees : Along w i (leaf_row leaves) (leaves - i) seen
  pub many : length seen ≡ i

pub none_begun : (w : List ℕ) (xs : List Bool) (leaves : ℕ) → Begun w xs leaves 0
none_begun w xs leaves =
    let e : leaves - 0 ≡ leaves = omega arith in
    record { seen = []; all = ap (λ (k : ℕ). reverse (built_leaves 0 k xs)) e; trees = tt; many = omega arith }

-- the marks of the leaf i
abbrev here : List Bool → ℕ → List Bool
here xs i = take 64 (drop (i * 64) xs)

-- a leaf that is not the last is filled
leaf_filled : (n i : ℕ) (xs : List Bool) → suc i < leaf_count (length xs) → FitsLeft 64 (leaf n (here xs i))
unfolding size
leaf_filled n i xs h =
    let most = leaf_full i (length xs) h in
    let all : length (here xs i) ≡ 64 = omega (arith, length-take 64 (drop (i * 64) xs), length-drop (i * 64) xs) in
    record { marks = omega arith; sized = omega arith }

-- a leaf in front of those that stand
in_front : {w : List ℕ} {i leaves : ℕ} (xs : List Bool) (seen : List Tree) → length seen ≡ i → i < leaves
    → ((x : Item) → x ≡ record { tree = record { node = i; length = 64 }; height = 0 } → Waits w (suc i) (leaves - suc i) (leaf i xs) x)
    → Along w (suc i) (leaf_row leaves) (suc (leaves - suc i)) seen → Along w (suc i) (leaf_row leaves) (leaves - suc i) (leaf i xs ∷ seen)
in_front xs [] many h s p =
    s _ (let z : 0 ≡ _ = many in λ j. record { tree = record { node = z j; length = 64 }; height = 0 })
in_front {i = i} {leaves = leaves} xs (t ∷ seen) many h s p =
    (s _ (let z : leaves - 1 - (leaves - suc i) ≡ i = omega arith in λ j. record { tree = record { node = z j; length = 64 }; height = 0 }), p)

module _ {w : List ℕ} {xs : List Bool} {leaves i : ℕ} (w' : List ℕ) (b : Begun w xs leaves i) (few : leaves ≡ leaf_count (length xs)) (h : i < leaves)
    (fits : i < nodes_in w) where
  pub one_begun : w' ≡ put w i (leaf_cell (leaf_of (here xs i))) → Begun w' xs leaves (suc i)
  unfolding built_leaves
  one_begun f =
      let k : leaves - i ≡ suc (leaves - suc i) = omega arith in
      let past : i * 64 + 64 ≡ suc i * 64 = omega arith in
      let next : drop 64 (drop (i * 64) xs) ≡ drop (suc i * 64) xs = drop-drop 64 (i * 64) xs ∙ ap (λ (n : ℕ). drop n xs) past in
      let stored : Put w w' i (Node.Leaf (leaf_of (here xs i))) = rw f (put_leaf w i (leaf_of (here xs i)) fits) in
      let older : Along w i (leaf_row leaves) (suc (leaves - suc i)) b.seen = rw k at b.trees in
      let all : reverse_aux (built_leaves i (suc (leaves - suc i)) (drop (i * 64) xs)) b.seen ≡ reverse (built_leaves 0 leaves xs) =
      rw k at b.all in
      let waits = leaf_waits (leaves - suc i) 64 (here xs i) stored (λ more. leaf_filled i i xs (omega arith)) in
      record {
        seen = leaf i (here xs i) ∷ b.seen;
        all = rw (← next) all;
        trees = in_front (here xs i) b.seen b.many h (λ x e. rw e waits)
            (along_kept w w' i (suc i) (put_kept stored) (omega arith) (leaf_row leaves) (suc (leaves - suc i)) b.seen older);
        many = ap suc b.many;
      }

-- all leaves put: they wait for the first round
leaves_level : (leaves : ℕ) → 1 ≤ leaves → leaves ≤ 512 → Level leaves (leaf_row leaves)
leaves_level leaves some few =
    record {
      left = 10;
      few = omega arith;
      low = omega arith;
      total = omega arith;
      last_total = omega arith;
      not_lower = omega arith;
      not_higher = omega arith;
      placed = omega arith;
      within = omega arith;
    }

pub all_begun : {w : List ℕ} {xs : List Bool} {leaves i : ℕ} → Begun w xs leaves i → i ≡ leaves → 1 ≤ leaves → leaves ≤ 512
    → Waiting w leaves (leaf_row leaves) (reverse (built_leaves 0 leaves xs))
unfolding built_leaves
all_begun {w} {xs} {leaves} {i} b e some few =
    let none : leaves - i ≡ 0 = omega arith in
    let same : b.seen ≡ reverse (built_leaves 0 leaves xs) = rw none at b.all in
    record {
      many = simp (length-reverse, built_leaves_length);
      trees = rw (← same) (rw (none, e) at b.trees);
      level = leaves_level leaves some few;
    }
