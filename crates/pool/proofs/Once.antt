-- The words that an edit leaves are determined: at the numbers of the tree they hold its nodes, and elsewhere they are as before.
use Prim.Native.Nat.{ℕ, ◌*◌, ◌<◌}
use native.Mathlib.Omega.{arith}
use mathlib.Core.Path.{◌≡◌, sym, ap, ◌∙◌}
use mathlib.Core.List.Memᴰ
use mathlib.Core.List.{List, [], ◌∷◌, Memᴰ}
use mathlib.Core.Logic.{⊎_elim}
use borrow.Author.Tests.{eqb-true, eqb-false}
use lib.Dec.{eqb}
use lib.ListN.{length}
use Rattle.model.specs.Tree.{Tree, numbers}
use Rattle.model.proofs.Cases.{by_test}
use Rattle.bits.specs.Leaf.{leaf_of}
use Rattle.pool.specs.Node.{node_at, node_words}
use Rattle.pool.specs.Layout.{Holds, Edited, fork_of}
use Rattle.pool.specs.declared.node.Node.{Node}
use Rattle.pool.specs.declared.node.Node.TheVariants.{Leaf as leaf, Fork as fork, Broken as broken}
use Rattle.pool.proofs.Cells.{same_nodes}

-- words of so many nodes, each laid out as one
pub record Unbroken (n : ℕ) (w : List ℕ) : Type 0 where
  pub words : length w ≡ node_words * n
  pub nodes : (k : ℕ) → k < n → node_at w k ≡ broken → ⊥

-- a number stands in a list or not
pub by_member : {P : Type 0} (k : ℕ) (ns : List ℕ) → (Memᴰ k ns → P) → ((Memᴰ k ns → ⊥) → P) → P
by_member k [] p q = q Memᴰ.not-nil
by_member k (n ∷ ns) p q =
    by_test (eqb k n)
    (λ e. p (Memᴰ.head (eqb-true k n e)))
    (λ e. by_member k ns (λ m. p (Memᴰ.tail m)) (λ out. q (λ m. ⊎_elim (eqb-false k n e) out (Memᴰ.cases_cons m))))

-- at each of its numbers a tree has one node, whatever words hold it
pub its_node : (t : Tree) (k : ℕ) → Memᴰ k (numbers t) → (x : Node) × (x ≡ broken → ⊥) × ((w : List ℕ) → Holds w t → node_at w k ≡ x)
unfolding numbers
its_node (Tree.leaf n xs) k m = (
  leaf (leaf_of xs),
  λ b. let z : ◌≡◌ {A = ℕ} 0 1 = cc in omega arith,
  λ w h. ap (node_at w) (Memᴰ.eq_of_singleton m) ∙ h,
)
its_node (Tree.fork n l r) k m =
    ⊎_elim
    (λ e. (fork (fork_of l r), (λ b. let z : ◌≡◌ {A = ℕ} 0 1 = cc in omega arith), λ w h. ap (node_at w) e ∙ h.0))
    (λ m'. ⊎_elim
    (λ i. let s = its_node l k i in (s.0, s.1, λ w h. s.2 w h.1))
    (λ i. let s = its_node r k i in (s.0, s.1, λ w h. s.2 w h.2))
    (Memᴰ.append_cases (numbers l) m'))
    (Memᴰ.cases_cons m)

-- two edits of whole words to one tree, at its own numbers, leave the same words
pub edited_once : {w u v ns : List ℕ} {t : Tree} (n : ℕ) → Unbroken n w → ns ≡ numbers t → Edited w u ns t → Edited w v ns t → u ≡ v
edited_once {w} {u} {v} {ns} {t} n whole own d e =
    same_nodes n u v (d.size ∙ whole.words) (e.size ∙ whole.words)
    (λ k h.
    by_member k ns
    (λ m. let s = its_node t k (rw own at m) in s.2 u d.holds ∙ sym (s.2 v e.holds))
    (λ out. d.else k out ∙ sym (e.else k out)))
    (λ k h b.
    by_member k ns
    (λ m. let s = its_node t k (rw own at m) in s.1 (sym (s.2 u d.holds) ∙ b))
    (λ out. whole.nodes k h (sym (d.else k out) ∙ b)))
