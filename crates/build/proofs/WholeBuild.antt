-- The pool that the model builds, from its parts: the tree that the rounds leave, and the free chain past its numbers.
use Prim.Native.Nat.{ℕ, ◌-◌, ◌*◌, ◌≤◌}
use native.Mathlib.Omega.{arith}
use mathlib.Core.Path.{◌≡◌, sym, ap, ◌∙◌}
use mathlib.Core.Bool.{Bool}
use mathlib.Core.List.{List, reverse}
use Rattle.std.specs.Prelude.{Option, Some}
use lib.ListN.{length}
use Rattle.model.specs.Build.{build, built_leaves, leaf_count, rounds}
use Rattle.model.specs.Pool as Pool
use Rattle.model.specs.Pool.{Pool, nodes_for, numbers_from}
use Rattle.model.specs.Tree.{Tree, size}
use Rattle.model.proofs.BuiltContent.{build_marks}
use Rattle.model.proofs.Content.{size_marks}
use Rattle.model.proofs.NumbersFrom.{numbers_from_length}
use Rattle.model.proofs.PoolCases.{build_outcomes}
use Rattle.model.proofs.PoolSound.{build_tree}
use Rattle.pool.specs.Layout.{Chained}
use Rattle.pool.proofs.Standing.{holds_same}
use Rattle.build.specs.Built.{BuiltAs}
use Rattle.build.specs.Waiting.{Kept, Finished}
use Rattle.tree.specs.declared.root.Held.{Held}
use Rattle.build.proofs.FreeChain.{first_from}

-- the tree of these marks, so many leaves having been made
abbrev pub tree_of : ℕ → List Bool → Tree
tree_of k xs = rounds k k (reverse (built_leaves 0 k xs))

-- what the model's pool is, if it builds one
pool_is : (n k : ℕ) (xs : List Bool) (p : Pool) → k ≡ leaf_count (length xs) → Pool.build n xs ≡ Some p
    → p ≡ record { tree = tree_of k xs; free = numbers_from (2 * k - 1) (n - (2 * k - 1)) }
unfolding nodes_for build
pool_is n k xs p e =
    let whole : ℕ → Pool = λ m. record { tree = tree_of m xs; free = numbers_from (2 * m - 1) (n - (2 * m - 1)) } in
    build_outcomes (λ (o : Option Pool). o ≡ Some p → p ≡ whole k) n xs
    (λ _ f. let z : ◌≡◌ {A = ℕ} 0 1 = cc in absurd (omega arith))
    (λ _ f. let z : p ≡ whole (leaf_count (length xs)) = cc in z ∙ ap whole (sym e))

-- it has so many marks as it was built from
pub built_size : (n : ℕ) (xs : List Bool) (p : Pool) → Pool.build n xs ≡ Some p → size p.tree ≡ length xs
built_size n xs p e = ap size (build_tree n xs p e) ∙ size_marks (build xs) ∙ ap length (build_marks xs)

-- the parts make the whole
pub stands : (w w' : List ℕ) (n k : ℕ) (xs : List Bool) (r : Held) (p : Pool) → k ≡ leaf_count (length xs) → Pool.build n xs ≡ Some p
    → 2 * k - 1 ≤ n → Finished w (2 * k - 1) (tree_of k xs) r.tree.node → r.tree.length ≡ length xs → Kept w w' (2 * k - 1) → length w' ≡ n * 6
    → r.chain.first ≡ 2 * k - 1 → r.chain.count ≡ n - (2 * k - 1) → Chained w' n (numbers_from (2 * k - 1) (n - (2 * k - 1))) → BuiltAs w' n r p
stands w w' n k xs r p e f fits t total kept words first count chain =
    let need : ℕ = 2 * k - 1 in
    rw (pool_is n k xs p e f)
    (record {
      laid = record { words = words; tree = holds_same w w' (tree_of k xs) (λ m h. kept m (t.below m h)) t.holds; chain = chain };
      root = t.at;
      total = total ∙ sym (rw (pool_is n k xs p e f) at (built_size n xs p f));
      first = first ∙ sym (first_from n need (n - need) (omega arith));
      count = count ∙ sym (numbers_from_length need (n - need));
    })
