-- Visiting a tree that stands in words: a leaf's marks go by, or those of the left child and then those of the right one.
use Prim.Native.Nat.{ℕ, ◌+◌, ◌≤◌}
use native.Mathlib.Omega.{arith}
use mathlib.Core.Path.{◌≡◌, sym, ap, ◌∙◌}
use mathlib.Core.List.{List}
use lib.ListN.{take}
use Rattle.model.specs.Tree.{Tree, marks}
use Rattle.model.proofs.Content.{size_marks}
use Rattle.bits.specs.Leaf.{bits_of}
use Rattle.bits.specs.declared.leaf.Leaf.{Leaf}
use Rattle.pool.specs.declared.node.Fork.{Fork}
use Rattle.tree.proofs.Down.{Lone, Parts}
use Rattle.quiet.specs.Watching.{passed, watched}
use Rattle.quiet.specs.declared.longest.Watch.{Watch}
use Rattle.quiet.proofs.Passed.{leaf_first, watched_append, watched_since}

pub leaf_visited : {len : ℕ} {x : Leaf} {t : Tree} (l : Lone len x t) (v : Watch) {r : Watch}
    → r ≡ watched v (take len (bits_of x)) → r ≡ watched v (marks t)
leaf_visited {len} {x} {t} l v q =
    q ∙ ap (λ (k : ℕ). watched v (take k (bits_of x))) (sym l.count)
    ∙ ap (watched v) (leaf_first x (marks t) l.marks_are (omega (arith, l.count, l.small)))

module _ {w : List ℕ} {levels len : ℕ} {f : Fork} {t : Tree} (p : Parts w levels len f t) (v : Watch) {first : Watch}
    (a : first ≡ watched v (marks p.left.tree)) where
  -- the left child's marks add no more quiet frames than they are
  pub left_since : passed first ≤ passed v + f.left_total
  left_since = rw a (omega (arith, watched_since v (marks p.left.tree), size_marks p.left.tree, p.left.total))

  pub fork_visited : {last : Watch} → last ≡ watched first (marks p.right.tree) → last ≡ watched v (marks t)
  fork_visited b =
      b ∙ ap (λ (y : Watch). watched y (marks p.right.tree)) a
      ∙ sym (ap (watched v) p.both ∙ watched_append v (marks p.left.tree) (marks p.right.tree))
