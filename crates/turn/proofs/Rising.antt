-- The two forks that a turn makes, field by field. To the left, the risen fork's left child holds what A and C hold; to the right, the lowered fork's
-- left child holds what the top's held, less what E holds.
use Prim.Native.Nat.{ℕ, ◌+◌, ◌-◌, ◌^◌, ◌≤◌, ◌<◌}
use native.Mathlib.Omega.{arith}
use mathlib.Core.Path.{◌≡◌, sym, ◌∙◌}
use mathlib.Core.Bool.{Bool, true, false}
use Rattle.model.specs.Tree.{Tree, fork, height, size}
use Rattle.pool.specs.declared.node.Fork.{Fork}
use Rattle.turn.specs.Forks.{joined, over}
use Rattle.turn.specs.Sites.{Stores}
use Rattle.turn.proofs.Read.{fields, fork_same, fork_top, fork_size, fork_ones, ones_size}

-- what is read, and the balances that are to be stored
pub record Read (left : Bool) (top child : Fork) (b : ℕ) (a c e : Tree) : Type 0 where
  pub top_is : top ≡ over left a (joined left b c e)
  pub child_is : child ≡ over left c e

pub record Stored (left : Bool) (lowered risen b : ℕ) (a c e : Tree) : Type 0 where
  pub lowered_is : Stores left (height a) (height c) lowered
  pub risen_is : Stores left (height (joined left b a c)) (height e) risen

-- ---- to the left

abbrev pub lowered_left : Fork → Fork → ℕ → Fork
lowered_left top child balance =
    record { left = top.left; right = child.left; left_total = top.left_total; left_ones = top.left_ones; balance = balance }

abbrev pub risen_left : Fork → Fork → ℕ → Fork
risen_left top child balance =
    record {
      left = top.right;
      right = child.right;
      left_total = top.left_total + child.left_total;
      left_ones = top.left_ones + child.left_ones;
      balance = balance;
    }

module _ {top child : Fork} (b : ℕ) (a c e : Tree) where
  pub fits_left : (left : Bool) → left ≡ true → Read left top child b a c e → size a + size c < 2 ^ 64
      → (top.left_total + child.left_total < 2 ^ 64) × (top.left_ones + child.left_ones < 2 ^ 64)
  fits_left true same r few =
      let t = fields top a (fork b c e) r.top_is in
      let s = fields child c e r.child_is in
      (omega (arith, t.total, s.total), omega (arith, t.ones, s.ones, ones_size a, ones_size c))
  fits_left false same r few = let never : ◌≡◌ {A = ℕ} 0 1 = cc in absurd (omega arith)

  pub made_left : {lowered risen : ℕ} (left : Bool) → left ≡ true → Read left top child b a c e → Stored left lowered risen b a c e
      → (lowered_left top child lowered ≡ over left a c) × (risen_left top child risen ≡ over left (joined left b a c) e)
  made_left true same r z =
      let t = fields top a (fork b c e) r.top_is in
      let s = fields child c e r.child_is in (
        fork_same _ a c t.left_is s.left_is t.total t.ones (omega (arith, z.lowered_is)),
        fork_same _ (fork b a c) e (t.right_is ∙ fork_top b c e ∙ sym (fork_top b a c)) s.right_is
            (omega (arith, t.total, s.total, fork_size b a c)) (omega (arith, t.ones, s.ones, fork_ones b a c)) (omega (arith, z.risen_is)),
      )
  made_left false same r z = let never : ◌≡◌ {A = ℕ} 0 1 = cc in absurd (omega arith)

-- ---- to the right

abbrev pub lowered_right : Fork → Fork → ℕ → Fork
lowered_right top child balance =
    record {
      left = child.right;
      right = top.right;
      left_total = top.left_total - child.left_total;
      left_ones = top.left_ones - child.left_ones;
      balance = balance;
    }

abbrev pub risen_right : Fork → Fork → ℕ → Fork
risen_right top child balance =
    record { left = child.left; right = top.left; left_total = child.left_total; left_ones = child.left_ones; balance = balance }

module _ {top child : Fork} (b : ℕ) (a c e : Tree) where
  pub fits_right : (left : Bool) → left ≡ false → Read left top child b a c e
      → (child.left_total ≤ top.left_total) × (child.left_ones ≤ top.left_ones)
  fits_right true same r = let never : ◌≡◌ {A = ℕ} 0 1 = cc in absurd (omega arith)
  fits_right false same r =
      let t = fields top (fork b e c) a r.top_is in
      let s = fields child e c r.child_is in
      (omega (arith, t.total, s.total, fork_size b e c), omega (arith, t.ones, s.ones, fork_ones b e c))

  pub made_right : {lowered risen : ℕ} (left : Bool) → left ≡ false → Read left top child b a c e → Stored left lowered risen b a c e
      → (lowered_right top child lowered ≡ over left a c) × (risen_right top child risen ≡ over left (joined left b a c) e)
  made_right true same r z = let never : ◌≡◌ {A = ℕ} 0 1 = cc in absurd (omega arith)
  made_right false same r z =
      let t = fields top (fork b e c) a r.top_is in
      let s = fields child e c r.child_is in (
        fork_same _ c a s.right_is t.right_is
            (omega (arith, t.total, s.total, fork_size b e c)) (omega (arith, t.ones, s.ones, fork_ones b e c)) (omega (arith, z.lowered_is)),
        fork_same _ e (fork b c a) s.left_is (t.left_is ∙ fork_top b e c ∙ sym (fork_top b c a)) s.total s.ones
            (omega (arith, z.risen_is)),
      )
