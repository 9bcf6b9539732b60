-- Words in which a whole pool stands are told by the pool: every node is a node of the tree or of the free chain, and none is broken.
use Prim.Native.Nat.{ℕ, ◌≤◌, ◌<◌}
use native.Mathlib.Omega.{arith}
use mathlib.Core.Path.{◌≡◌, refl, sym, ◌∙◌}
use mathlib.Core.Bool.{Bool}
use mathlib.Core.List.Memᴰ
use mathlib.Core.List.{List, [], ◌∷◌, Memᴰ}
use mathlib.Core.Logic.{⊎_elim}
use Rattle.std.specs.Prelude.{Option, Some}
use lib.ListN.{length}
use Rattle.model.specs.Build.{leaf_count}
use Rattle.model.specs.Pool.{Pool, build, nodes_for, numbers_from}
use Rattle.model.specs.Sound.{Rearranged, all_numbers}
use Rattle.model.specs.Tree.{Tree, leaf, fork, numbers}
use Rattle.model.proofs.NumbersFrom.{numbers_from_member}
use Rattle.model.proofs.PoolCases.{build_outcomes}
use Rattle.model.proofs.Rearranged.{rearranged_member}
use Rattle.bits.specs.Leaf.{leaf_of}
use Rattle.pool.specs.Layout.{Chained, Holds, Laid, first_of, fork_of}
use Rattle.pool.specs.Node.{node_at}
use Rattle.pool.specs.declared.node.Node.{Node}
use Rattle.pool.specs.declared.node.Node.TheVariants.{Free, Leaf, Fork, Broken}
use Rattle.pool.proofs.Cells.{same_nodes}

-- the same node in both words, and no broken one
abbrev Same : List ℕ → List ℕ → ℕ → Type 0
Same w w' k = (node_at w k ≡ node_at w' k) × (node_at w k ≡ Broken → ⊥)

module _ (w w' : List ℕ) where
  told : {k n : ℕ} (x : Node) → k ≡ n → (x ≡ Broken → ⊥) → node_at w n ≡ x → node_at w' n ≡ x → Same w w' k
  told x e whole p q = rw e (p ∙ sym q, λ b. whole (sym p ∙ b))

  tree_same : (t : Tree) → Holds w t → Holds w' t → (k : ℕ) → Memᴰ k (numbers t) → Same w w' k
  unfolding numbers
  tree_same (leaf n xs) p q k m =
      ⊎_elim (λ e. told (Leaf (leaf_of xs)) e (λ b. let z : ◌≡◌ {A = ℕ} 0 1 = cc in omega arith) p q) (λ none. absurd (Memᴰ.not-nil none))
      (Memᴰ.cases_cons m)
  tree_same (fork n l r) p q k m =
      ⊎_elim
      (λ e. told (Fork (fork_of l r)) e (λ b. let z : ◌≡◌ {A = ℕ} 0 1 = cc in omega arith) p.0 q.0)
      (λ deeper. ⊎_elim (tree_same l p.1 q.1 k) (tree_same r p.2 q.2 k) (Memᴰ.append_cases (numbers l) deeper))
      (Memᴰ.cases_cons m)

  chain_same : (end : ℕ) (ns : List ℕ) → Chained w end ns → Chained w' end ns → (k : ℕ) → Memᴰ k ns → Same w w' k
  chain_same end [] p q k m = absurd (Memᴰ.not-nil m)
  chain_same end (n ∷ ns) p q k m =
      ⊎_elim
      (λ e. told (Free (first_of end ns)) e (λ b. let z : ◌≡◌ {A = ℕ} 0 1 = cc in omega arith) p.0 q.0)
      (chain_same end ns p.1 q.1 k)
      (Memᴰ.cases_cons m)

-- a pool that has every number stands in one list of words only
pub laid_one : {w w' : List ℕ} {n : ℕ} {p : Pool} → Laid w n p → Laid w' n p → Rearranged (numbers_from 0 n) (all_numbers p) → w ≡ w'
unfolding all_numbers
laid_one {w} {w'} {n} {p} a b each =
    let same : (k : ℕ) → k < n → Same w w' k =
    λ k h.
    ⊎_elim (tree_same w w' p.tree a.tree b.tree k) (chain_same w w' n p.free a.chain b.chain k)
    (Memᴰ.append_cases (numbers p.tree) (rearranged_member k (numbers_from 0 n) (all_numbers p) each
    (numbers_from_member k 0 n (omega arith) (omega arith)))) in
    same_nodes n w w' (omega (arith, a.words)) (omega (arith, b.words)) (λ k h. (same k h).0) (λ k h. (same k h).1)

-- where there is room a pool is built
pub builds : (n : ℕ) (xs : List Bool) → nodes_for (leaf_count (length xs)) ≤ n → (p : Pool) × (build n xs ≡ Some p)
builds n xs room =
    build_outcomes (λ (o : Option Pool). (p : Pool) × (o ≡ Some p)) n xs (λ few. absurd (omega arith)) (λ _. (_, refl))
