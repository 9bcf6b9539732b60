-- A child of a fork has come to its height from another. What the fork says is read, its balance is set right, and it is made even.
use Prim.Native.Nat.{ℕ, suc, ◌+◌, ◌-◌, ◌≤◌, max}
use native.Mathlib.Omega.{arith}
use mathlib.Core.Path.{◌≡◌, sym, ap, subst, ◌∙◌}
use mathlib.Core.Bool.{Bool, true, false}
use mathlib.Core.List.Memᴰ
use mathlib.Core.List.{List, Memᴰ}
use mathlib.Core.Logic.{⊎_elim}
use lib.IntN.{ℤ}
use Rattle.model.specs.Tree.{Tree, fork, height, numbers}
use Rattle.model.specs.Turn as Turn
use Rattle.pool.specs.Layout.{Holds, fork_of}
use Rattle.pool.specs.Node.{fork_cell, fork_in, node_at, put, Put}
use Rattle.pool.specs.declared.node.Fork.{Fork}
use Rattle.pool.specs.declared.node.Node.TheVariants as Node
use Rattle.pool.proofs.Cells.{fork_says, put_fork}
use Rattle.pool.proofs.Standing.{holds_same}
use Rattle.turn.specs.Apart.{Apart}
use Rattle.model.specs.Side.{side}
use Rattle.turn.specs.Sites.{Leveled, Stale, Stores, with_balance}
use Rattle.turn.specs.Words.{Evened, Uneven}
use Rattle.turn.proofs.Read.{fork_same, fork_size}

-- ---- the child that has changed and the other one

pub higher_side : (left : Bool) (l r : Tree) → max (height (side left l r)) (height (side left r l)) ≡ max (height l) (height r)
higher_side true l r = omega arith
higher_side false l r = omega arith

side_stores : (left : Bool) (l r : Tree) {s : ℕ} → Stores left (height (side left l r)) (height (side left r l)) s → s ≡ (height r + 2) - height l
side_stores true l r e = omega arith
side_stores false l r e = omega arith

module _ {w : List ℕ} {n : ℕ} where
  -- neither is more than two levels higher than the other
  pub near_sides : (left : Bool) {was : ℕ} {l r : Tree} → Stale w n left was l r → (height l ≤ height r + 2) × (height r ≤ height l + 2)
  near_sides true s = (omega arith, omega arith)
  near_sides false s = (omega arith, omega arith)

  -- ---- the fork

  -- what is stored in it, of the height before
  pub stale_stores : (left : Bool) {was : ℕ} {l r : Tree} (f : Fork) → Stale w n left was l r → f ≡ fork_in (node_at w n)
      → Stores left was (height (side left r l)) f.balance × (f.balance ≤ 4)
  stale_stores true f s e = let b = ap (λ (g : Fork). g.balance) (e ∙ ap fork_in s.says) in (omega arith, omega arith)
  stale_stores false f s e = let b = ap (λ (g : Fork). g.balance) (e ∙ ap fork_in s.says) in (omega arith, omega arith)

  -- with the balance of the heights now it is the fork over the trees
  pub set_right : (left : Bool) {was : ℕ} (l r : Tree) {f g : Fork} {s : ℕ} → Stale w n left was l r → f ≡ fork_in (node_at w n)
      → g ≡ with_balance f s → Stores left (height (side left l r)) (height (side left r l)) s → g ≡ fork_of l r
  set_right left l r {f} {g} {s} stale e set is =
      let d = e ∙ ap fork_in stale.says in
      set
      ∙ fork_same (with_balance f s) l r (ap (λ (g : Fork). g.left) d) (ap (λ (g : Fork). g.right) d) (ap (λ (g : Fork). g.left_total) d)
      (ap (λ (g : Fork). g.left_ones) d) (side_stores left l r is)

-- made even, a fork has kept its height or lost a level
pub evened_near : {w w' : List ℕ} {g : ℤ} {n : ℕ} {l r : Tree} → Evened w w' g n l r
    → (height (Turn.rebalance n l r) ≤ height (fork n l r)) × (height (fork n l r) ≤ suc (height (Turn.rebalance n l r)))
evened_near {g} {n} {l} {r} v =
    let high = height (Turn.rebalance n l r) in
    ⊎_elim
    (λ e. let p = subst (λ (z : ℤ). Apart z high (height (fork n l r))) e v.change in (omega (arith, p.is), omega (arith, p.is)))
    (λ e. let p = subst (λ (z : ℤ). Apart z high (height (fork n l r))) e v.change in (omega (arith, p.is), omega (arith, p.is)))
    v.small

module _ {w : List ℕ} {n : ℕ} {left : Bool} {was : ℕ} (l r : Tree) (s : Stale w n left was l r) where
  pub put_right : {w₁ : List ℕ} (g : Fork) → w₁ ≡ put w n (fork_cell g) → Put w w₁ n (Node.Fork g)
  put_right g e = rw e (put_fork w n g (fork_says w n _ s.says).0)

  module _ {w₁ : List ℕ} {g : Fork} (p : Put w w₁ n (Node.Fork g)) where
    kept : (t : Tree) → (Memᴰ n (numbers t) → ⊥) → Holds w t → Holds w₁ t
    kept t out h = holds_same w w₁ t (λ k m. p.else k (λ e. out (Memᴰ.cast (sym e) m))) h

    -- the fork stands, and may be made even
    pub uneven : g ≡ fork_of l r → Uneven w₁ n l r
    unfolding numbers
    uneven e =
        record {
          stands =
              record {
                holds = (
                  p.here ∙ ap Node.Fork e,
                  kept l (λ m. s.once.0 (Memᴰ.append_left (numbers r) m)) s.left_holds,
                  kept r (λ m. s.once.0 (Memᴰ.append_right (numbers l) m)) s.right_holds,
                );
                distinct = s.once;
                few = omega (arith, s.few, fork_size n l r);
              };
          left = s.left_balanced;
          right = s.right_balanced;
          left_most = (near_sides left s).0;
          right_most = (near_sides left s).1;
        }

    -- made even, it is the fork that was asked for
    pub leveled : {w₂ : List ℕ} {even grown : ℤ} → Evened w₁ w₂ even n l r
        → Apart grown (height (Turn.rebalance n l r)) (suc (max was (height (side left r l)))) → Leveled w w₂ n left was l r grown
    unfolding numbers
    leveled v c =
        record {
          edited =
              record {
                size = v.edited.size ∙ p.size;
                holds = v.edited.holds;
                else = λ k out. v.edited.else k out ∙ p.else k (λ m. out (Memᴰ.head m));
              };
          change = c;
        }
