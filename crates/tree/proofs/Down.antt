-- Going down a path: a walk stands on a subtree of which something is known, and a step goes to a child of it. What was read says
-- which tree it is.
use Prim.Native.Nat.{ℕ, ◌-◌, ◌≤◌}
use native.Mathlib.Omega.{arith}
use mathlib.Core.Path.{◌≡◌, refl, sym, ap, ◌∙◌}
use mathlib.Core.Bool.{Bool}
use mathlib.Core.List.{List, ◌++◌}
use lib.ListN.{length}
use Rattle.model.specs.Tree.{Tree, marks, size}
use Rattle.model.proofs.Cases.{by_test}
use Rattle.bits.specs.Choice.{Picked}
use Rattle.bits.specs.Leaf.{leaf_of}
use Rattle.bits.specs.declared.leaf.Leaf.{Leaf}
use Rattle.pool.specs.Layout.{Rooted, fork_of}
use Rattle.pool.specs.Node.{LeafOrFork, as_node, node_at}
use Rattle.pool.specs.declared.node.Fork.{Fork}
use Rattle.pool.specs.declared.node.Node.TheVariants.{Leaf as leaf, Fork as fork}
use Rattle.pool.specs.declared.node.TreeNode.{TreeNode}
use Rattle.pool.proofs.Standing.{by_leaf, by_fork, left_rooted, right_rooted, rooted_node, some_level, leaf_small}
use Rattle.tree.specs.TreeAt.{TreeAt}
use Rattle.tree.specs.Stepping.{left_child, right_child}
use Rattle.tree.specs.declared.root.Root.{Root}

-- ---- one step, where a test tells the child

module _ {first : Bool} {n r : ℕ} (p : Picked first 0 n r) where
  -- what is passed over is no more than the left child holds, and no more than stands before the place
  pub picked_most : r ≤ n
  picked_most = by_test first (λ t. omega (arith, p.one t)) (λ t. omega (arith, p.other t))

-- ---- a tree that stands at a number, by what was read there

-- a leaf was read: it holds the tree's marks
pub record Lone (len : ℕ) (x : Leaf) (t : Tree) : Type 0 where
  pub marks_are : x ≡ leaf_of (marks t)
  pub count : length (marks t) ≡ len
  pub small : len ≤ 127

-- a fork was read: its children stand one level further down, and share the marks
pub record Parts (w : List ℕ) (levels len : ℕ) (f : Fork) (t : Tree) : Type 0 where
  pub left : TreeAt w (left_child f) (levels - 1)
  pub right : TreeAt w (right_child f len) (levels - 1)
  pub level : 1 ≤ levels
  pub within : f.left_total ≤ len
  pub both : marks t ≡ marks left.tree ++ marks right.tree

module _ {w : List ℕ} {root : Root} {levels : ℕ} (s : TreeAt w root levels) where
  -- what stands there can be read as a leaf or a fork
  pub stands_node : LeafOrFork (node_at w root.node)
  stands_node = rooted_node s.tree s.rooted

  module _ {r : TreeNode} (e : as_node r ≡ node_at w root.node) where
    pub stands_leaf : {x : Leaf} → r ≡ TreeNode.Leaf x → Lone root.length x s.tree
    unfolding marks size
    stands_leaf {x} q =
        by_leaf (λ t. size t ≡ root.length → Lone root.length x t) s.tree x s.rooted (sym e ∙ ap as_node q)
        (λ m xs h x_is z. record { marks_are = x_is; count = z; small = rw z at (leaf_small m xs h) }) s.total

    pub stands_fork : {f : Fork} → r ≡ TreeNode.Fork f → Parts w levels root.length f s.tree
    unfolding marks size fork_of
    stands_fork {f} q =
        by_fork (λ t. size t ≡ root.length → Parts w levels root.length f t) s.tree f s.rooted (sym e ∙ ap as_node q)
        (λ m l r h f_is z. rw f_is (record {
          left = record { tree = l; rooted = left_rooted m l r h; total = refl };
          right = record { tree = r; rooted = right_rooted m l r h; total = omega (arith, z) };
          level = some_level m l r h;
          within = omega (arith, z);
          both = refl;
        })) s.total

-- ---- a walk

-- a walk in words w has come to number n with so many levels left, and P is known of the tree there
pub record On (w : List ℕ) (n levels : ℕ) (P : Tree → Type 0) : Type 0 where
  pub tree : Tree
  pub rooted : Rooted w n levels tree
  pub here : P tree

-- it stands on a leaf, or on a fork, as was read
pub record OnLeaf (w : List ℕ) (n levels : ℕ) (P : Tree → Type 0) (x : Leaf) : Type 0 where
  pub on : On w n levels P
  pub read : node_at w n ≡ leaf x

pub record OnFork (w : List ℕ) (n levels : ℕ) (P : Tree → Type 0) (f : Fork) : Type 0 where
  pub on : On w n levels P
  pub read : node_at w n ≡ fork f

module _ {w : List ℕ} {n levels : ℕ} {P : Tree → Type 0} (o : On w n levels P) where
  -- what stands there can be read as a leaf or a fork
  pub on_node : LeafOrFork (node_at w n)
  on_node = rooted_node o.tree o.rooted

  module _ {r : TreeNode} (e : as_node r ≡ node_at w n) where
    pub told_leaf : {x : Leaf} → r ≡ TreeNode.Leaf x → OnLeaf w n levels P x
    told_leaf q = record { on = o; read = sym e ∙ ap as_node q }

    pub told_fork : {f : Fork} → r ≡ TreeNode.Fork f → OnFork w n levels P f
    told_fork q = record { on = o; read = sym e ∙ ap as_node q }

pub on_leaf : {w : List ℕ} {n levels : ℕ} {P : Tree → Type 0} {x : Leaf} (o : OnLeaf w n levels P x) {G : Type 0}
    → ((m : ℕ) (xs : List Bool) → x ≡ leaf_of xs → length xs ≤ 127 → P (Tree.leaf m xs) → G) → G
on_leaf {P = P} {x = x} o {G} g =
    by_leaf (λ t. P t → G) o.on.tree x o.on.rooted o.read (λ m xs h s p. g m xs s (leaf_small m xs h) p) o.on.here

-- on a fork there are levels left, and the walk goes on at either child
module _ {w : List ℕ} {n levels : ℕ} {P : Tree → Type 0} {f : Fork} (o : OnFork w n levels P f) where
  pub on_level : 1 ≤ levels
  on_level = by_fork (λ _. 1 ≤ levels) o.on.tree f o.on.rooted o.read (λ m l r h s. some_level m l r h)

  -- what follows from the fork's own words
  pub on_fork : {G : Type 0} → ((m : ℕ) (l r : Tree) → f ≡ fork_of l r → P (Tree.fork m l r) → G) → G
  on_fork {G} g = by_fork (λ t. P t → G) o.on.tree f o.on.rooted o.read (λ m l r h s p. g m l r s p) o.on.here

  pub down_left : (Q : Tree → Type 0) → ((m : ℕ) (l r : Tree) → f ≡ fork_of l r → P (Tree.fork m l r) → Q l) → On w f.left (levels - 1) Q
  unfolding fork_of
  down_left Q g =
      by_fork (λ t. P t → On w f.left (levels - 1) Q) o.on.tree f o.on.rooted o.read
      (λ m l r h s p. record { tree = l; rooted = rw s (left_rooted m l r h); here = g m l r s p }) o.on.here

  pub down_right : (Q : Tree → Type 0) → ((m : ℕ) (l r : Tree) → f ≡ fork_of l r → P (Tree.fork m l r) → Q r) → On w f.right (levels - 1) Q
  unfolding fork_of
  down_right Q g =
      by_fork (λ t. P t → On w f.right (levels - 1) Q) o.on.tree f o.on.rooted o.read
      (λ m l r h s p. record { tree = r; rooted = rw s (right_rooted m l r h); here = g m l r s p }) o.on.here
