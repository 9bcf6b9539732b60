-- Trees and chains that stand in words. What stands at a tree's own numbers is all that holds it; and words hold one tree and one chain only.
use Prim.Native.Nat.{ℕ, ◌-◌, ◌≤◌}
use native.Mathlib.Omega.{arith}
use mathlib.Core.Path.{◌≡◌, refl, sym, ap, ap₂, ◌∙◌}
use mathlib.Core.Bool.{Bool, false}
use mathlib.Core.List.Memᴰ
use mathlib.Core.List.{List, [], ◌∷◌, Memᴰ}
use lib.ListN.{length, take, replicate}
use lib.Seq.{take-append_seam}
use Rattle.model.specs.Sound.{Sized}
use Rattle.model.specs.Tree.{Tree, top, size, height, numbers}
use Rattle.model.proofs.Leaves.{sized_size, sized_weaken}
use Rattle.bits.specs.Leaf.{leaf_of, bits_of}
use Rattle.bits.specs.declared.leaf.Leaf.{Leaf}
use Rattle.bits.proofs.Held.{held_bits}
use Rattle.pool.specs.Node.{LeafOrFork, node_at}
use Rattle.pool.specs.Layout.{fork_of, first_of, Holds, Chained, Rooted}
use Rattle.pool.specs.declared.node.Fork.{Fork}
use Rattle.pool.specs.declared.node.Node.TheVariants.{Free as free, Leaf as leaf, Fork as fork, Broken as broken}

-- ---- frame: words that agree at the numbers of a tree, or of a chain, hold it too

pub holds_same : (w w' : List ℕ) (t : Tree) → ((k : ℕ) → Memᴰ k (numbers t) → node_at w' k ≡ node_at w k) → Holds w t → Holds w' t
unfolding numbers
holds_same w w' (Tree.leaf n xs) same h = same n (Memᴰ.head refl) ∙ h
holds_same w w' (Tree.fork n l r) same h = (
  same n (Memᴰ.head refl) ∙ h.0,
  holds_same w w' l (λ k m. same k (Memᴰ.tail (Memᴰ.append_left (numbers r) m))) h.1,
  holds_same w w' r (λ k m. same k (Memᴰ.tail (Memᴰ.append_right (numbers l) m))) h.2,
)

pub chained_same : (w w' : List ℕ) (end : ℕ) (ns : List ℕ) → ((k : ℕ) → Memᴰ k ns → node_at w' k ≡ node_at w k) → Chained w end ns
    → Chained w' end ns
chained_same w w' end [] same h = tt
chained_same w w' end (n ∷ ns) same h = (same n (Memᴰ.head refl) ∙ h.0, chained_same w w' end ns (λ k m. same k (Memᴰ.tail m)) h.1)

-- ---- one tree, one chain

-- a leaf holds one list of a length
leaf_marks : (xs ys : List Bool) → length xs ≤ 128 → length xs ≡ length ys → leaf_of xs ≡ leaf_of ys → xs ≡ ys
leaf_marks xs ys h l e =
    sym (take-append_seam xs (replicate (128 - length xs) false))
    ∙ ap (take (length xs)) (sym (held_bits xs h) ∙ ap bits_of e ∙ held_bits ys (omega arith))
    ∙ rw l (take-append_seam ys (replicate (128 - length ys) false))

-- two trees that stand in the same words at the same number and hold as many marks are the same
pub holds_one : (w : List ℕ) (t u : Tree) → Sized 0 t → Sized 0 u → top t ≡ top u → size t ≡ size u → Holds w t → Holds w u → t ≡ u
unfolding top size fork_of
holds_one w (Tree.leaf n xs) (Tree.leaf m ys) s v e z h k =
    let same : leaf (leaf_of xs) ≡ leaf (leaf_of ys) = sym h ∙ ap (node_at w) e ∙ k in
    let both : leaf_of xs ≡ leaf_of ys = cc in
    ap₂ Tree.leaf e (leaf_marks xs ys (omega arith) z both)
holds_one w (Tree.leaf n xs) (Tree.fork m l r) s v e z h k =
    let same : leaf (leaf_of xs) ≡ fork (fork_of l r) = sym h ∙ ap (node_at w) e ∙ k.0 in
    let never : ◌≡◌ {A = ℕ} 0 1 = cc in
    absurd (omega arith)
holds_one w (Tree.fork n l r) (Tree.leaf m ys) s v e z h k =
    let same : fork (fork_of l r) ≡ leaf (leaf_of ys) = sym h.0 ∙ ap (node_at w) e ∙ k in
    let never : ◌≡◌ {A = ℕ} 0 1 = cc in
    absurd (omega arith)
holds_one w (Tree.fork n l r) (Tree.fork m l' r') s v e z h k =
    let same : fork (fork_of l r) ≡ fork (fork_of l' r') = sym h.0 ∙ ap (node_at w) e ∙ k.0 in
    let both : fork_of l r ≡ fork_of l' r' = cc in
    let left : size l ≡ size l' = ap (λ (f : Fork). f.left_total) both in
    let first : l ≡ l' =
    holds_one w l l' (sized_weaken 0 33 l (omega arith) s.0) (sized_weaken 0 33 l' (omega arith) v.0) (ap (λ (f : Fork). f.left) both) left
    h.1 k.1 in
    let second : r ≡ r' = holds_one w r r' s.1 v.1 (ap (λ (f : Fork). f.right) both) (omega arith) h.2 k.2 in
    λ i. Tree.fork (e i) (first i) (second i)

-- two chains in the same words that begin alike and are as long are the same
pub chained_one : (w : List ℕ) (end : ℕ) (ms ns : List ℕ) → first_of end ms ≡ first_of end ns → length ms ≡ length ns → Chained w end ms
    → Chained w end ns → ms ≡ ns
unfolding first_of
chained_one w end [] [] e l h k = refl
chained_one w end [] (n ∷ ns) e l h k = absurd (omega arith)
chained_one w end (m ∷ ms) [] e l h k = absurd (omega arith)
chained_one w end (m ∷ ms) (n ∷ ns) e l h k =
    let same : free (first_of end ms) ≡ free (first_of end ns) = sym h.0 ∙ ap (node_at w) e ∙ k.0 in
    let next : first_of end ms ≡ first_of end ns = cc in
    ap₂ {C = List ℕ} (λ x xs. x ∷ xs) e (chained_one w end ms ns next (omega arith) h.1 k.1)

-- ---- subtrees

module _ {w : List ℕ} {n levels : ℕ} (m : ℕ) (l r : Tree) (t : Rooted w n levels (Tree.fork m l r)) where
  -- what is read at the top
  pub fork_read : node_at w n ≡ fork (fork_of l r)
  unfolding top
  fork_read = ap (node_at w) (sym t.at) ∙ t.holds.0

  -- the children stand one level further down
  pub left_rooted : Rooted w (top l) (levels - 1) l
  unfolding height
  left_rooted = record { at = refl; holds = t.holds.1; deep = omega (arith, t.deep); sized = sized_weaken 0 33 l (omega arith) t.sized.0 }

  pub right_rooted : Rooted w (top r) (levels - 1) r
  unfolding height
  right_rooted = record { at = refl; holds = t.holds.2; deep = omega (arith, t.deep); sized = t.sized.1 }

  pub some_level : 1 ≤ levels
  unfolding height
  some_level = omega (arith, t.deep)

module _ {w : List ℕ} {n levels : ℕ} (m : ℕ) (xs : List Bool) (t : Rooted w n levels (Tree.leaf m xs)) where
  pub leaf_read : node_at w n ≡ leaf (leaf_of xs)
  unfolding top
  leaf_read = ap (node_at w) (sym t.at) ∙ t.holds

  pub leaf_small : length xs ≤ 127
  leaf_small = t.sized.1

-- ---- what was read tells the tree

module _ {w : List ℕ} {n levels : ℕ} (P : Tree → Type 0) where
  -- a leaf was read: the tree is a leaf of the marks that it holds
  pub by_leaf : (t : Tree) (x : Leaf) → Rooted w n levels t → node_at w n ≡ leaf x
      → ((m : ℕ) (xs : List Bool) → Rooted w n levels (Tree.leaf m xs) → x ≡ leaf_of xs → P (Tree.leaf m xs)) → P t
  by_leaf (Tree.leaf m xs) x h e p = p m xs h (let same : leaf x ≡ leaf (leaf_of xs) = sym e ∙ leaf_read m xs h in cc)
  by_leaf (Tree.fork m l r) x h e p =
      let same : leaf x ≡ fork (fork_of l r) = sym e ∙ fork_read m l r h in
      let never : ◌≡◌ {A = ℕ} 0 1 = cc in
      absurd (omega arith)

  -- a fork was read: the tree is a fork, and it holds what the fork over its children does
  pub by_fork : (t : Tree) (f : Fork) → Rooted w n levels t → node_at w n ≡ fork f
      → ((m : ℕ) (l r : Tree) → Rooted w n levels (Tree.fork m l r) → f ≡ fork_of l r → P (Tree.fork m l r)) → P t
  by_fork (Tree.leaf m xs) f h e p =
      let same : fork f ≡ leaf (leaf_of xs) = sym e ∙ leaf_read m xs h in
      let never : ◌≡◌ {A = ℕ} 0 1 = cc in
      absurd (omega arith)
  by_fork (Tree.fork m l r) f h e p = p m l r h (let same : fork f ≡ fork (fork_of l r) = sym e ∙ fork_read m l r h in cc)

-- a tree's own node is a leaf, or a fork whose left child has a mark
pub rooted_node : {w : List ℕ} {n levels : ℕ} (t : Tree) → Rooted w n levels t → LeafOrFork (node_at w n)
unfolding fork_of
rooted_node (Tree.leaf m xs) h = rw (leaf_read m xs h) tt
rooted_node (Tree.fork m l r) h = rw (fork_read m l r h) (omega (arith, sized_size 33 l h.sized.0))

-- no tree stands where a free node, or none, was read
pub not_free : {A : Type 0} {w : List ℕ} {n levels : ℕ} (t : Tree) (k : ℕ) → Rooted w n levels t → node_at w n ≡ free k → A
not_free (Tree.leaf m xs) k h e =
    let same : free k ≡ leaf (leaf_of xs) = sym e ∙ leaf_read m xs h in
    let never : ◌≡◌ {A = ℕ} 0 1 = cc in
    absurd (omega arith)
not_free (Tree.fork m l r) k h e =
    let same : free k ≡ fork (fork_of l r) = sym e ∙ fork_read m l r h in
    let never : ◌≡◌ {A = ℕ} 0 1 = cc in
    absurd (omega arith)

pub not_broken : {A : Type 0} {w : List ℕ} {n levels : ℕ} (t : Tree) → Rooted w n levels t → node_at w n ≡ broken → A
not_broken (Tree.leaf m xs) h e =
    let same : broken ≡ leaf (leaf_of xs) = sym e ∙ leaf_read m xs h in
    let never : ◌≡◌ {A = ℕ} 0 1 = cc in
    absurd (omega arith)
not_broken (Tree.fork m l r) h e =
    let same : broken ≡ fork (fork_of l r) = sym e ∙ fork_read m l r h in
    let never : ◌≡◌ {A = ℕ} 0 1 = cc in
    absurd (omega arith)
