-- The words that an edit of a tree and of the free chain leaves are determined: at the numbers of both they hold their nodes, and elsewhere they are
-- as before.
use Prim.Native.Nat.{ℕ}
use native.Mathlib.Omega.{arith}
use mathlib.Core.Path.{◌≡◌, sym, ap, ◌∙◌}
use mathlib.Core.List.Memᴰ
use mathlib.Core.List.{List, [], ◌∷◌, ◌++◌, Memᴰ}
use mathlib.Core.Logic.{⊎_elim}
use Rattle.model.specs.Tree.{Tree, numbers}
use Rattle.pool.specs.Node.{node_at}
use Rattle.pool.specs.Layout.{Chained, Edited, Holds, first_of}
use Rattle.pool.specs.declared.node.Node.{Node}
use Rattle.pool.specs.declared.node.Node.TheVariants.{Free as free, Broken as broken}
use Rattle.pool.proofs.Cells.{same_nodes}
use Rattle.pool.proofs.Once.{Unbroken, by_member, its_node}

-- at each of its numbers a chain has one node, whatever words hold it
chain_node : (end : ℕ) (ns : List ℕ) (k : ℕ) → Memᴰ k ns → (x : Node) × (x ≡ broken → ⊥) × ((w : List ℕ) → Chained w end ns → node_at w k ≡ x)
chain_node end [] k m = absurd (Memᴰ.not-nil m)
chain_node end (n ∷ ns) k m =
    ⊎_elim
    (λ e. (free (first_of end ns), (λ b. let z : ◌≡◌ {A = ℕ} 0 1 = cc in omega arith), λ w h. ap (node_at w) e ∙ h.0))
    (λ i. let s = chain_node end ns k i in (s.0, s.1, λ w h. s.2 w h.1))
    (Memᴰ.cases_cons m)

-- the same of a tree and a chain
both_node : (end : ℕ) (t : Tree) (ns : List ℕ) (k : ℕ) → Memᴰ k (numbers t ++ ns)
    → (x : Node) × (x ≡ broken → ⊥) × ((w : List ℕ) → Holds w t → Chained w end ns → node_at w k ≡ x)
both_node end t ns k m =
    ⊎_elim
    (λ i. let s = its_node t k i in (s.0, s.1, λ w h c. s.2 w h))
    (λ i. let s = chain_node end ns k i in (s.0, s.1, λ w h c. s.2 w c))
    (Memᴰ.append_cases (numbers t) m)

-- two edits of whole words to one tree and one chain, at their own numbers, leave the same words
pub edited_chained_once : {w u v ms : List ℕ} {t : Tree} (n end : ℕ) (ns : List ℕ) → Unbroken n w
    → ((k : ℕ) → Memᴰ k ms → Memᴰ k (numbers t ++ ns))
    → Edited w u ms t → Chained u end ns → Edited w v ms t → Chained v end ns → u ≡ v
edited_chained_once {w} {u} {v} {ms} {t} n end ns whole own d du e ev =
    same_nodes n u v (d.size ∙ whole.words) (e.size ∙ whole.words)
    (λ k h.
    by_member k ms
    (λ m. let s = both_node end t ns k (own k m) in s.2 u d.holds du ∙ sym (s.2 v e.holds ev))
    (λ out. d.else k out ∙ sym (e.else k out)))
    (λ k h b.
    by_member k ms
    (λ m. let s = both_node end t ns k (own k m) in s.1 (sym (s.2 u d.holds du) ∙ b))
    (λ out. whole.nodes k h (sym (d.else k out) ∙ b)))
