-- A visit, case by case: what was read at a node, and what its children's visits answered, tell which trees stand there. A visit of a fork is one
-- of its left child and then one of its right child, with the room that the first has left.
use Prim.Native.Nat.{ℕ, suc, ◌+◌, ◌-◌, ◌≤◌, max}
use native.Mathlib.Omega.{arith}
use mathlib.Core.Path.{◌≡◌, refl, sym, ap, ◌∙◌}
use mathlib.Core.Bool.{Bool, true, false}
use mathlib.Core.List.{List, [], ◌∷◌, ◌++◌}
use lib.ListN.{length, length-append}
use Rattle.model.specs.Marks.{count}
use Rattle.model.specs.Edit.{leaf_least}
use Rattle.model.specs.Tree.{Tree, top, marks, size, height, numbers}
use Rattle.model.proofs.Counting.{count_append}
use Rattle.bits.specs.Leaf.{leaf_of}
use Rattle.bits.specs.declared.leaf.Leaf.{Leaf}
use Rattle.pool.specs.Layout.{Holds, fork_of}
use Rattle.pool.specs.Node.{node_at}
use Rattle.pool.specs.declared.node.Fork.{Fork}
use Rattle.pool.specs.declared.node.Node.{Node}
use Rattle.pool.specs.declared.node.Node.TheVariants.{Free as free, Leaf as leaf, Fork as fork, Broken as broken}
use Rattle.sound.specs.Met.{Fresh, Marked, Meets}
use Rattle.model.specs.Says.{Says}
use Rattle.sound.specs.Part.{Agrees, Filled, Part, Stands, Walked, Visited, held, left_claim, right_claim}
use Rattle.sound.specs.declared.met.Met.{Met}
use Rattle.sound.specs.declared.visit.Claim.{Claim}
use Rattle.sound.proofs.Answers.{never}
use Rattle.sound.proofs.Bitmap.{fresh_first, fresh_second, fresh_join, marked_join}
use Rattle.sound.proofs.Padding.{held_of, held_length}

-- ---- what stands at a tree's top

-- the node of a tree's top
abbrev top_node : Tree → Node
top_node (Tree.leaf n xs) = leaf (leaf_of xs)
top_node (Tree.fork n l r) = fork (fork_of l r)

holds_top : (w : List ℕ) (t : Tree) → Holds w t → node_at w (top t) ≡ top_node t
unfolding top
holds_top w (Tree.leaf n xs) h = h
holds_top w (Tree.fork n l r) h = h.0

no_free : (t : Tree) (k : ℕ) → top_node t ≡ free k → ⊥
no_free (Tree.leaf n xs) k e = let z : ◌≡◌ {A = ℕ} 0 1 = cc in omega arith
no_free (Tree.fork n l r) k e = let z : ◌≡◌ {A = ℕ} 0 1 = cc in omega arith

no_broken : (t : Tree) → top_node t ≡ broken → ⊥
no_broken (Tree.leaf n xs) e = let z : ◌≡◌ {A = ℕ} 0 1 = cc in omega arith
no_broken (Tree.fork n l r) e = let z : ◌≡◌ {A = ℕ} 0 1 = cc in omega arith

-- a fresh tree has a fresh top, and a tree has a node
top_fresh : {met : List ℕ} (t : Tree) → Fresh met (numbers t) → Fresh met (top t ∷ [])
unfolding top numbers
top_fresh (Tree.leaf n xs) f = f
top_fresh (Tree.fork n l r) f = fresh_first (n ∷ []) (numbers l ++ numbers r) f

some_node : (t : Tree) → 1 ≤ length (numbers t)
unfolding numbers
some_node (Tree.leaf n xs) = omega arith
some_node (Tree.fork n l r) = omega arith

-- ---- the levels of a fork's children

-- how many levels each child is below a fork, by its stored balance
leaning : (b : ℕ) → 1 ≤ b → b ≤ 3
    → (b + max 1 (3 - b) ≡ max 1 (b - 1) + 2) × (1 ≤ max 1 (b - 1)) × (1 ≤ max 1 (3 - b)) × (max 1 (b - 1) + max 1 (3 - b) ≤ 3)
leaning b h k = (omega arith, omega arith, omega arith, omega arith)

-- what follows for their heights
abbrev Heights : ℕ → ℕ → ℕ → ℕ → Type 0
Heights b levels l r = (b ≡ (r + 2) - l) × (l ≤ suc r) × (r ≤ suc l) × (suc (max l r) + 1 ≡ levels)

heights : (b u v levels l r : ℕ) → (b + v ≡ u + 2) × (1 ≤ u) × (1 ≤ v) × (u + v ≤ 3) → l + 1 ≡ levels - u → r + 1 ≡ levels - v → Heights b levels l r
heights b u v levels l r h p q =
    let one = h.0 in
    let two = h.1 in
    let three = h.2 in
    let four = h.3 in
    let left : l + 1 + u ≡ levels = omega arith in
    let right : r + 1 + v ≡ levels = omega arith in
    (omega arith, omega arith, omega arith, omega arith)

-- a fork's tree, in the words of the fork
pub record Forked (w : List ℕ) (least total strikes levels : ℕ) (f : Fork) (l r : Tree) : Type 0 where
  pub agrees : Agrees f total strikes levels
  pub left : Part w leaf_least f.left f.left_total f.left_ones (levels - max 1 (f.balance - 1)) l
  pub right : Part w least f.right (total - f.left_total) (strikes - f.left_ones) (levels - max 1 (3 - f.balance)) r

module _ {w : List ℕ} {least n total strikes levels : ℕ} where
  part_top : (t : Tree) → Part w least n total strikes levels t → node_at w n ≡ top_node t
  part_top t p = ap (node_at w) (sym p.at) ∙ holds_top w t p.holds

  -- no tree stands at a free node, or where no node is
  pub part_free : (t : Tree) (k : ℕ) → node_at w n ≡ free k → Part w least n total strikes levels t → ⊥
  part_free t k e p = no_free t k (sym (part_top t p) ∙ e)

  pub part_broken : (t : Tree) → node_at w n ≡ broken → Part w least n total strikes levels t → ⊥
  part_broken t e p = no_broken t (sym (part_top t p) ∙ e)

  -- ---- a leaf was read

  -- a tree that stands there is that leaf
  pub part_leaf : (x : Leaf) → node_at w n ≡ leaf x → (t : Tree) → Part w least n total strikes levels t
      → Filled x total strikes least levels × (numbers t ≡ n ∷ [])
  unfolding top size height marks numbers
  part_leaf x read (Tree.leaf m xs) p =
      let same : leaf x ≡ leaf (leaf_of xs) = sym read ∙ part_top (Tree.leaf m xs) p in
      let e : x ≡ leaf_of xs = cc in
      let l : total ≡ length xs = sym p.counts in
      let small : length xs ≤ 128 = omega (arith, p.sized.1) in
      let all : held x total ≡ xs = rw (e, l) (held_of xs small) in (
        record {
          low = omega (arith, p.tall);
          enough = omega (arith, p.sized.0);
          most = omega (arith, p.sized.1);
          ends = e ∙ ap leaf_of (sym all);
          ones = ap (count true) all ∙ p.ones;
        },
        ap (λ (k : ℕ). k ∷ []) p.at,
      )
  part_leaf x read (Tree.fork m l k) p =
      let same : leaf x ≡ fork (fork_of l k) = sym read ∙ part_top (Tree.fork m l k) p in
      let z : ◌≡◌ {A = ℕ} 0 1 = cc in
      absurd (omega arith)

  -- a leaf that is filled makes a tree
  leaf_part : (x : Leaf) → node_at w n ≡ leaf x → Filled x total strikes least levels
      → Part w least n total strikes levels (Tree.leaf n (held x total))
  unfolding top size height marks numbers
  leaf_part x read h =
      let long : length (held x total) ≡ total = held_length x total (omega (arith, h.most)) in
      record {
        at = refl;
        holds = read ∙ ap leaf h.ends;
        counts = long;
        ones = h.ones;
        sized = (omega (arith, h.enough), omega (arith, h.most));
        balanced = tt;
        tall = omega (arith, h.low);
      }

  -- ---- a fork was read

  -- every tree that stands there is such a fork
  pub forked : (f : Fork) (m : ℕ) (l r : Tree) → node_at w n ≡ fork f → Part w least n total strikes levels (Tree.fork m l r)
      → Forked w least total strikes levels f l r
  unfolding top size height marks fork_of
  forked f m l r read p =
      let same : fork f ≡ fork (fork_of l r) = sym read ∙ part_top (Tree.fork m l r) p in
      let e : f ≡ fork_of l r = cc in
      let full : f.left_total ≡ size l = ap (λ (g : Fork). g.left_total) e in
      let ones : f.left_ones ≡ count true (marks l) = ap (λ (g : Fork). g.left_ones) e in
      let balance : f.balance ≡ (height r + 2) - height l = ap (λ (g : Fork). g.balance) e in
      let both = count_append true (marks l) (marks r) in
      let near = p.balanced.2 in
      let far = p.balanced.3 in
      let tall = p.tall in
      record {
        agrees = record {
          high = omega arith;
          leans = omega arith;
          even = omega arith;
          marks = omega (arith, p.counts);
          ones = omega (arith, p.ones);
        };
        left = record {
          at = sym (ap (λ (g : Fork). g.left) e);
          holds = p.holds.1;
          counts = sym full;
          ones = sym ones;
          sized = p.sized.0;
          balanced = p.balanced.0;
          tall = omega arith;
        };
        right = record {
          at = sym (ap (λ (g : Fork). g.right) e);
          holds = p.holds.2;
          counts = omega (arith, p.counts);
          ones = omega (arith, p.ones);
          sized = p.sized.1;
          balanced = p.balanced.1;
          tall = omega arith;
        };
      }

  pub by_forked : (f : Fork) (P : Tree → Type 0) (t : Tree) → node_at w n ≡ fork f → Part w least n total strikes levels t
      → ((m : ℕ) (l r : Tree) → m ≡ n → Forked w least total strikes levels f l r → P (Tree.fork m l r)) → P t
  unfolding top
  by_forked f P (Tree.leaf m xs) read p q =
      let same : fork f ≡ leaf (leaf_of xs) = sym read ∙ part_top (Tree.leaf m xs) p in
      let z : ◌≡◌ {A = ℕ} 0 1 = cc in
      absurd (omega arith)
  by_forked f P (Tree.fork m l r) read p q = q m l r p.at (forked f m l r read p)

  -- two subtrees make one
  fork_part : (f : Fork) (l r : Tree) → node_at w n ≡ fork f → Forked w least total strikes levels f l r
      → Part w least n total strikes levels (Tree.fork n l r)
  unfolding top size height marks fork_of
  fork_part f l r read h =
      let a = h.agrees in
      let p = h.left in
      let q = h.right in
      let high : Heights f.balance levels (height l) (height r) =
      heights f.balance _ _ levels (height l) (height r) (leaning f.balance a.leans a.even) p.tall q.tall in
      let same : f ≡ fork_of l r = λ i. record {
        left = sym p.at i;
        right = sym q.at i;
        left_total = sym p.counts i;
        left_ones = sym p.ones i;
        balance = high.0 i;
      } in
      record {
        at = refl;
        holds = (read ∙ ap fork same, p.holds, q.holds);
        counts = omega (arith, p.counts, q.counts, a.marks);
        ones = omega (arith, p.ones, q.ones, a.ones, count_append true (marks l) (marks r));
        sized = (p.sized, q.sized);
        balanced = (p.balanced, q.balanced, high.1, high.2);
        tall = high.3;
      }

  -- ---- what stands where so many levels are claimed

  -- no leaf has two levels, and no fork has one
  pub low_leaf : levels ≤ 1 → (t : Tree) → Part w least n total strikes levels t
      → (x : Leaf) × (node_at w n ≡ leaf x) × Filled x total strikes least levels
  unfolding height
  low_leaf low (Tree.leaf m xs) p =
      let read = part_top (Tree.leaf m xs) p in
      (leaf_of xs, read, (part_leaf (leaf_of xs) read (Tree.leaf m xs) p).0)
  low_leaf low (Tree.fork m l r) p = absurd (omega (arith, p.tall))

  pub high_fork : 2 ≤ levels → (t : Tree) → Part w least n total strikes levels t
      → (f : Fork) × (node_at w n ≡ fork f) × Agrees f total strikes levels
  unfolding height
  high_fork high (Tree.leaf m xs) p = absurd (omega (arith, p.tall))
  high_fork high (Tree.fork m l r) p =
      let read = part_top (Tree.fork m l r) p in
      (fork_of l r, read, (forked (fork_of l r) m l r read p).agrees)

-- ---- the nodes of a fork's tree

fork_nodes : (m : ℕ) (l r : Tree) → length (numbers (Tree.fork m l r)) ≡ length (numbers l) + length (numbers r) + 1
unfolding numbers
fork_nodes m l r = omega (arith, length-append (numbers l) (numbers r))

module _ {met met₁ : List ℕ} {n : ℕ} (m : ℕ) (l r : Tree) (e : m ≡ n) (m₁ : Marked met met₁ (n ∷ [])) where
  -- what is fresh after the fork itself is met, and what has been met in the end
  below_fresh : Fresh met (numbers (Tree.fork m l r)) → Fresh met₁ (numbers l ++ numbers r)
  unfolding numbers
  below_fresh h = fresh_second (m ∷ []) (numbers l ++ numbers r) h (rw e m₁)

  joined_marked : {met₂ met₃ : List ℕ} → Marked met₁ met₂ (numbers l) → Marked met₂ met₃ (numbers r) → Marked met met₃ (numbers (Tree.fork m l r))
  unfolding numbers
  joined_marked b c = marked_join (m ∷ []) (numbers l ++ numbers r) (rw e m₁) (marked_join (numbers l) (numbers r) b c)

-- ---- what a visit answers

module _ {w : List ℕ} {m : Met} {c : Claim} where
  -- every tree is ruled out
  refused : {m' : Met} → ((t : Tree) → Stands w c t → Fresh m.words (numbers t) → length (numbers t) ≤ m.room → ⊥) → Visited w m m' c false
  refused out = record { yes = λ e. never e refl; no = λ t p f l. absurd (out t p f l) }

  -- there is no room for the node, or it was met before
  pub visited_met : {m' : Met} {b : Bool} → Meets m m' c.root b → b ≡ false → Visited w m m' c false
  visited_met k e = refused (λ t p f l. never (k.no (omega (arith, some_node t)) (rw p.at at (top_fresh t f))) e)

  -- where a leaf is claimed there is none, or a leaf of which the claim is not true
  pub visited_no_leaf : {m' : Met} → c.levels ≤ 1 → ((x : Leaf) → node_at w c.root ≡ leaf x → Filled x c.total c.ones c.least c.levels → ⊥)
      → Visited w m m' c false
  visited_no_leaf low out = refused (λ t p f l. let x = low_leaf low t p in out x.0 x.1 x.2)

  -- where a fork is claimed there is none, or a fork of which the claim is not true
  pub visited_no_fork : {m' : Met} → 2 ≤ c.levels → ((f : Fork) → node_at w c.root ≡ fork f → Agrees f c.total c.ones c.levels → ⊥)
      → Visited w m m' c false
  visited_no_fork high out = refused (λ t p f l. let x = high_fork high t p in out x.0 x.1 x.2)

  -- it is a fork of which the claims are not true
  pub visited_untrue : {m' : Met} (f : Fork) → node_at w c.root ≡ fork f → (Agrees f c.total c.ones c.levels → ⊥) → Visited w m m' c false
  visited_untrue f read out = refused (λ t p _ l. by_forked f (λ _. ⊥) t read p (λ n l r e h. out h.agrees))

  module _ {m₁ : Met} (k : Meets m m₁ c.root true) where
    -- a leaf takes one node's room
    pub visited_leaf : (x : Leaf) → node_at w c.root ≡ leaf x → {b : Bool} → Says (Filled x c.total c.ones c.least c.levels) b
        → Visited w m m₁ c b
    unfolding numbers
    visited_leaf x read says =
        let met = k.yes refl in
        record {
          yes = λ e. (
            Tree.leaf c.root (held x c.total),
            record { part = leaf_part x read (says.yes e); fresh = met.1; marked = met.2; rest = omega (arith, met.0) },
          );
          no = λ t p f l. let is = part_leaf x read t p in (says.no is.0, rw is.1 (omega (arith, met.0)), rw is.1 met.2);
        }

    -- a fork: its left child, and then its right child
    module _ (f : Fork) (read : node_at w c.root ≡ fork f) (agrees : Agrees f c.total c.ones c.levels) {m₂ : Met} where
      -- the left child does not stand there
      pub visited_left : {left : Claim} {r : Bool} → left ≡ left_claim c f → r ≡ false → Visited w m₁ m₂ left r → Visited w m m₂ c false
      visited_left near out v = refused (λ t p g l. by_forked f
          (λ (t : Tree). Fresh m.words (numbers t) → length (numbers t) ≤ m.room → ⊥) t read p
          (λ n a b e h g l.
          let met = k.yes refl in
          let size = fork_nodes n a b in
          never (v.no a (rw near h.left) (fresh_first (numbers a) (numbers b) (below_fresh n a b e met.2 g)) (omega (arith, met.0))).0 out)
          g l)

      module _ (v : Visited w m₁ m₂ (left_claim c f) true) where
        walked_join : {m₃ : Met} (a b : Tree) → Walked w m₁ m₂ (left_claim c f) a → Walked w m₂ m₃ (right_claim c f) b
            → Walked w m m₃ c (Tree.fork c.root a b)
        unfolding numbers
        walked_join a b p q =
            let met = k.yes refl in
            record {
              part = fork_part f a b read (record { agrees = agrees; left = p.part; right = q.part });
              fresh = fresh_join (c.root ∷ []) (numbers a ++ numbers b) met.1 met.2
                  (fresh_join (numbers a) (numbers b) p.fresh p.marked q.fresh);
              marked = joined_marked c.root a b refl met.2 p.marked q.marked;
              rest = omega (arith, met.0, p.rest, q.rest, fork_nodes c.root a b);
            }

        pub visited_fork : {m₃ : Met} {r : Bool} → Visited w m₂ m₃ (right_claim c f) r → Visited w m m₃ c r
        visited_fork {m₃} {r} u =
            record {
              yes = λ e. let a = v.yes refl in let b = u.yes e in (Tree.fork c.root a.0 b.0, walked_join a.0 b.0 a.1 b.1);
              no = λ t p g l. by_forked f
                  (λ (t : Tree). Fresh m.words (numbers t) → length (numbers t) ≤ m.room
                  → (r ≡ true) × (m₃.room + length (numbers t) ≡ m.room) × Marked m.words m₃.words (numbers t))
                  t read p
                  (λ n a b e h g l.
                  let met = k.yes refl in
                  let size = fork_nodes n a b in
                  let both = below_fresh n a b e met.2 g in
                  let x = v.no a h.left (fresh_first (numbers a) (numbers b) both) (omega (arith, met.0)) in
                  let y = u.no b h.right (fresh_second (numbers a) (numbers b) both x.2) (omega (arith, met.0, x.1)) in
                  (y.0, omega (arith, met.0, x.1, y.1), joined_marked n a b e met.2 x.2 y.2))
                  g l;
            }

-- ---- how far a visit has come

-- what a visit answers from here on is what it answers from the start
pub record Onward (w : List ℕ) (m₀ : Met) (c₀ : Claim) (m : Met) (c : Claim) : Type 0 where
  pub falls : c.levels ≤ c₀.levels
  pub on : (m' : Met) (r : Bool) → Visited w m m' c r → Visited w m₀ m' c₀ r

-- past a fork whose left child has been visited
pub onward_more : {w : List ℕ} {m₀ m m₁ m₂ : Met} {c₀ c : Claim} → Onward w m₀ c₀ m c → Meets m m₁ c.root true → (f : Fork)
    → node_at w c.root ≡ fork f → Agrees f c.total c.ones c.levels → {left right : Claim} {r : Bool} → left ≡ left_claim c f → right ≡ right_claim c f
    → r ≡ true → Visited w m₁ m₂ left r → Onward w m₀ c₀ m₂ right
onward_more o k f read agrees near far stands v =
    rw far record {
      falls = omega (arith, o.falls);
      on = λ m' r u. o.on m' r (visited_fork k f read agrees (rw (sym near, sym stands) v) u);
    }
