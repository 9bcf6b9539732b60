-- A pool in words is told by its trailer and its nodes: the words say how many nodes there are, and hold one sound pool at the most.
use Prim.Native.Nat.{ℕ, ◌*◌}
use native.Mathlib.Omega.{arith}
use mathlib.Core.Path.{◌≡◌, refl, sym, ap, ◌∙◌}
use mathlib.Core.List.{List, [], ◌∷◌}
use lib.ListN.{length, take, drop, get_or, set, length-drop}
use lib.Seq.{length-take-le}
use Rattle.model.specs.Pool.{Pool}
use Rattle.model.specs.Tree.{top, size}
use Rattle.model.proofs.Depth.{depth}
pub use Rattle.model.proofs.Floor.{whole_sized}
use Rattle.pool.specs.Layout.{Rooted}
use Rattle.pool.specs.Node.{nodes_in}
use Rattle.pool.proofs.Cells.{nodes_in_of}
use Rattle.pool.proofs.Standing.{holds_one, chained_one}
use Rattle.sound.specs.Judged.{Correct}
use Rattle.tree.specs.declared.root.Held.{Held}
use Rattle.window.specs.Layout.{Counted, Stands, WellFormed, trailer_of, trailer_in}
use Rattle.window.specs.declared.trailer.Trailer.{Trailer}

-- ---- words

-- six words are what is read at their places
pub six : (ws : List ℕ) → length ws ≡ 6 → ws ≡ get_or ws 0 0 ∷ get_or ws 1 0 ∷ get_or ws 2 0 ∷ get_or ws 3 0 ∷ get_or ws 4 0 ∷ get_or ws 5 0 ∷ []
six [] e = absurd (omega arith)
six (a ∷ []) e = absurd (omega arith)
six (a ∷ b ∷ []) e = absurd (omega arith)
six (a ∷ b ∷ c ∷ []) e = absurd (omega arith)
six (a ∷ b ∷ c ∷ d ∷ []) e = absurd (omega arith)
six (a ∷ b ∷ c ∷ d ∷ f ∷ []) e = absurd (omega arith)
six (a ∷ b ∷ c ∷ d ∷ f ∷ g ∷ []) e = refl
six (a ∷ b ∷ c ∷ d ∷ f ∷ g ∷ h ∷ ws) e = absurd (omega arith)

-- the words say how many nodes there are
pub counted_one : (ws : List ℕ) (n m : ℕ) → Counted ws n → Counted ws m → n ≡ m
counted_one ws n m c d = omega (arith, c.words, d.words)

module _ (ws : List ℕ) (n : ℕ) (c : Counted ws n) where
  pub nodes_length : length (take (n * 6) ws) ≡ n * 6
  nodes_length = length-take-le (n * 6) ws (omega (arith, c.words))

  pub trailer_length : length (drop (n * 6) ws) ≡ 6
  trailer_length = length-drop (n * 6) ws ∙ omega (arith, c.words)

  pub nodes_are : nodes_in (take (n * 6) ws) ≡ n
  nodes_are = nodes_in_of n (take (n * 6) ws) (omega (arith, nodes_length))

  -- ---- a pool that stands, by its trailer's words

  module _ (p : Pool) where
    abbrev told : Trailer
    told = trailer_in (drop (n * 6) ws)

    abbrev held : Held
    held = told.held

    pub correct_stands : told.nodes ≡ n → told.last ≡ 0 → Correct (take (n * 6) ws) held.tree.node held.tree.length held.chain p
        → Stands ws n p
    unfolding trailer_of
    correct_stands e l r = record {
      counted = c;
      nodes = rw nodes_are at r.laid;
      trailer =
          six (drop (n * 6) ws) trailer_length
          ∙ (λ i. sym r.rooted i ∷ sym r.counts i ∷ sym (rw nodes_are at r.begins) i ∷ sym r.amount i ∷ e i ∷ l i ∷ []);
      sound = rw nodes_are at r.sound;
    }

    pub stands_nodes : Stands ws n p → told.nodes ≡ n
    unfolding trailer_of
    stands_nodes s = rw s.trailer

    pub stands_last : Stands ws n p → told.last ≡ 0
    unfolding trailer_of
    stands_last s = rw s.trailer

    pub stands_length : Stands ws n p → held.tree.length ≡ size p.tree
    unfolding trailer_of
    stands_length s = rw s.trailer

    pub stands_root : Stands ws n p → held.tree.node ≡ top p.tree
    unfolding trailer_of
    stands_root s = rw s.trailer

    pub stands_correct : Stands ws n p → Correct (take (n * 6) ws) held.tree.node held.tree.length held.chain p
    unfolding trailer_of
    stands_correct s = record {
      laid = rw nodes_are s.nodes;
      sound = rw nodes_are s.sound;
      rooted = sym (stands_root s);
      counts = sym (stands_length s);
      begins = rw nodes_are (sym (ap (λ (v : List ℕ). get_or v 2 0) s.trailer));
      amount = sym (ap (λ (v : List ℕ). get_or v 3 0) s.trailer);
    }

-- the tree of a pool that stands, from its root down
pub stands_rooted : (ws : List ℕ) (n : ℕ) (p : Pool) → Stands ws n p → Rooted (take (n * 6) ws) (top p.tree) 12 p.tree
stands_rooted ws n p s = record {
  at = refl;
  holds = s.nodes.tree;
  deep = depth n p s.counted.most s.sound;
  sized = whole_sized p.tree s.sound.whole;
}

-- two sound pools that stand in the same words are the same
pub one_state : (ws : List ℕ) (n m : ℕ) (p q : Pool) → Stands ws n p → Stands ws m q → p ≡ q
unfolding trailer_of
one_state ws n m p q s t' =
    let t : Stands ws n q = rw (sym (counted_one ws n m s.counted t'.counted)) at t' in
    let same : trailer_of n p ≡ trailer_of n q = sym s.trailer ∙ t.trailer in
    let tree : p.tree ≡ q.tree =
    holds_one (take (n * 6) ws) p.tree q.tree (whole_sized p.tree s.sound.whole) (whole_sized q.tree t.sound.whole)
    (ap (λ (v : List ℕ). get_or v 0 0) same) (ap (λ (v : List ℕ). get_or v 1 0) same) s.nodes.tree t.nodes.tree in
    let free : p.free ≡ q.free =
    chained_one (take (n * 6) ws) n p.free q.free (ap (λ (v : List ℕ). get_or v 2 0) same) (ap (λ (v : List ℕ). get_or v 3 0) same)
    s.nodes.chain
    t.nodes.chain in
    λ i. record { tree = tree i; free = free i }

-- a well-formed pool has the nodes that its words say
pub well_at : (ws : List ℕ) (n : ℕ) → Counted ws n → WellFormed ws → (q : Pool) × Stands ws n q
well_at ws n c x = (x.1, rw (sym (counted_one ws n x.0 c x.2.counted)) at x.2)

-- six stores
pub set_six : (ws : List ℕ) (a b c d f g : ℕ) → length ws ≡ 6
    → set (set (set (set (set (set ws 0 a) 1 b) 2 c) 3 d) 4 f) 5 g ≡ a ∷ b ∷ c ∷ d ∷ f ∷ g ∷ []
set_six ws a b c d f g e = rw (six ws e)
