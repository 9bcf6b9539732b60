-- One step down a tree that stands in words: the node that was read tells the tree at its number, and a step from a
-- fork toward a place tells the child that the place leads to.
use Prim.Native.Nat.{ℕ, ◌-◌, ◌≤◌, ◌<◌}
use native.Mathlib.Omega.{arith}
use mathlib.Core.Path.{◌≡◌, refl, sym, ap}
use mathlib.Core.Bool.{Bool, true, false}
use mathlib.Core.List.Memᴰ
use mathlib.Core.List.{List, ◌++◌, Memᴰ}
use Rattle.model.specs.Tree.{Tree, fork, top, size, numbers}
use Rattle.model.proofs.Cases.{by_ltb}
use Rattle.bits.specs.Leaf.{leaf_of}
use Rattle.bits.specs.declared.leaf.Leaf.{Leaf}
use Rattle.pool.specs.Layout.{Rooted, fork_of}
use Rattle.pool.specs.Node.{node_at, Put}
use Rattle.pool.specs.declared.node.Fork.{Fork}
use Rattle.pool.specs.declared.node.Node.{Node}
use Rattle.pool.proofs.Standing.{some_level}
use Rattle.tree.specs.Stepping.{step_left, step_right}
use Rattle.tree.specs.declared.steps.Step.{Step}
use Rattle.model.specs.Side.{side}
use Rattle.turn.specs.Sites.{Site}
use Rattle.turn.proofs.Sites.{by_leaf_at, by_fork_at, site_child, top_apart}
use Rattle.descent.specs.SiteAt.{SiteAt}

-- ---- what was read tells the tree

-- t is a leaf at n, and x holds its marks
pub record IsLeaf (n : ℕ) (x : Leaf) (t : Tree) : Type 0 where
  pub marks : List Bool
  pub is : t ≡ Tree.leaf n marks
  pub says : x ≡ leaf_of marks

module _ {w : List ℕ} {n levels : ℕ} {t : Tree} (h : Rooted w n levels t) where
  pub is_leaf : {x : Leaf} → node_at w n ≡ Node.Leaf x → IsLeaf n x t
  is_leaf {x} read = by_leaf_at (λ (t : Tree). IsLeaf n x t) t x h read (λ xs _ e. record { marks = xs; is = refl; says = e })

  module _ {f : Fork} (read : node_at w n ≡ Node.Fork f) where
    -- there is a level below
    pub fork_level : 1 ≤ levels
    fork_level = by_fork_at (λ _. 1 ≤ levels) t f h read (λ l r h _. some_level n l r h)

    -- the left child's total is within the tree's
    pub left_within : {total : ℕ} → size t ≡ total → f.left_total ≤ total
    unfolding fork_of size
    left_within {total} =
        by_fork_at (λ (t : Tree). size t ≡ total → f.left_total ≤ total) t f h read
        (λ l r _ s e. omega (arith, ap (λ (g : Fork). g.left_total) s))

-- ---- the step

-- what stands at one of two equal numbers stands at the other
pub site_at : {w : List ℕ} {m n levels end head : ℕ} {t : Tree} {free : List ℕ} → m ≡ n → Site w m levels end head t free
    → Site w n levels end head t free
site_at e s = rw e at s

-- s is the step from the fork f, over `total` marks, toward the place `index`
pub record Toward (f : Fork) (total index : ℕ) (s : Step) : Type 0 where
  pub to_left : index < f.left_total → s ≡ step_left f index
  pub to_right : f.left_total ≤ index → s ≡ step_right f total index

-- the child that the step leads to stands at its number, and the place is one of it
pub record Reached (s : Step) (total index : ℕ) (l r : Tree) : Type 0 where
  pub at : top (side s.left l r) ≡ s.child.node
  pub total_is : size (side s.left l r) ≡ s.child.length
  pub up_to : index ≤ total → s.index ≤ s.child.length
  pub below : index < total → s.index < s.child.length

module _ {f : Fork} {total index : ℕ} {s : Step} (n : ℕ) (l r : Tree) (e : f ≡ fork_of l r) (toward : Toward f total index s) where
  -- a step leads to the left or to the right
  pub by_step : (P : Step → Type 0) → (index < size l → P (step_left (fork_of l r) index))
      → (size l ≤ index → P (step_right (fork_of l r) total index)) → P s
  unfolding fork_of
  by_step P p q = by_ltb index (size l) (λ _ h. rw (toward.to_left (rw e h), e) (p h)) (λ _ h. rw (toward.to_right (rw e h), e) (q h))

  pub reached : size (fork n l r) ≡ total → Reached s total index l r
  unfolding fork_of size
  reached z =
      by_step (λ (s : Step). Reached s total index l r)
      (λ h. record { at = refl; total_is = refl; up_to = λ _. omega arith; below = λ _. h })
      (λ h. record { at = refl; total_is = omega arith; up_to = λ k. omega arith; below = λ k. omega arith })

-- the fork f at n was read, and s is the step from it
pub record Stepped (w : List ℕ) (n total index : ℕ) (f : Fork) (s : Step) : Type 0 where
  pub read : node_at w n ≡ Node.Fork f
  pub toward : Toward f total index s

-- the same of what a read and a step ensure
pub stepped : {w : List ℕ} {n total index : ℕ} {f : Fork} {s : Step} → node_at w n ≡ Node.Fork f
    → (index < f.left_total → s ≡ step_left f index) → (f.left_total ≤ index → s ≡ step_right f total index) → Stepped w n total index f s
stepped read left right = record { read = read; toward = record { to_left = left; to_right = right } }

-- ---- the child that a step leads to

-- what was read tells the fork's children, and of them the one that the step leads to
pub record Down {w : List ℕ} {n levels head total : ℕ} (b : SiteAt w n levels head total) (index : ℕ) (f : Fork) (s : Step) : Type 0 where
  pub l : Tree
  pub r : Tree
  pub is : b.tree ≡ fork n l r
  pub says : f ≡ fork_of l r
  pub site : Site w n levels b.end head (fork n l r) b.free
  pub total_is : size (fork n l r) ≡ total
  pub child : Reached s total index l r

module _ {w : List ℕ} {n levels head total index : ℕ} {f : Fork} {s : Step} (b : SiteAt w n levels head total) where
  pub down : Stepped w n total index f s → Down b index f s
  down p =
      by_fork_at
      (λ (t : Tree). t ≡ b.tree → Down b index f s) b.tree f b.site.rooted p.read
      (λ l r _ says is.
      let total_is = rw (sym is) at b.total_is in
      record {
        l = l;
        r = r;
        is = sym is;
        says = says;
        site = rw (sym is) at b.site;
        total_is = total_is;
        child = reached n l r says p.toward total_is;
      }) refl

  module _ (d : Down b index f s) where
    -- the child stands in words that are the same at its numbers and at the chain's
    abbrev pub child_stands : {v : List ℕ}
        → ((k : ℕ) → Memᴰ k (numbers (side s.left d.l d.r) ++ b.free) → node_at v k ≡ node_at w k)
        → SiteAt v s.child.node (levels - 1) head s.child.length
    child_stands same =
        record {
          end = b.end;
          tree = side s.left d.l d.r;
          free = b.free;
          site = site_at d.child.at (site_child s.left d.l d.r b.free d.site same);
          total_is = d.child.total_is;
        }

    -- so it does where another node has been put at the top
    pub top_put : {v : List ℕ} {x : Node} → Put w v n x
        → (k : ℕ) → Memᴰ k (numbers (side s.left d.l d.r) ++ b.free) → node_at v k ≡ node_at w k
    top_put p k m = p.else k (λ e. top_apart s.left n d.l d.r b.free d.site.once (Memᴰ.cast (sym e) m))

-- ---- the trees afterwards: the child that is changed, and the other

pub side_here : (left : Bool) (u l r : Tree) → side left (side left u l) (side left r u) ≡ u
side_here true u l r = refl
side_here false u l r = refl

pub side_other : (left : Bool) (u l r : Tree) → side left (side left r u) (side left u l) ≡ side left r l
side_other true u l r = refl
side_other false u l r = refl
