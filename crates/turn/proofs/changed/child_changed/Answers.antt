-- The balance is that of the heights before, told from the child that has changed; with the change it is that of the heights now. Assumes nothing.
use Prim.Native.Nat.{ℕ, suc, ◌+◌, ◌≤◌, max}
use native.Mathlib.Omega.{arith}
use borrow.Author.Rules.{rules}
use mathlib.Core.Bool.{Bool}
use mathlib.Core.List.{List}
use mathlib.Core.Path.{◌≡◌}
use lib.IntN.{ℤ, pos, ◌+ℤ◌, ◌-ℤ◌}
use mir.Syntax.{w64}
use mir.Val.{SFits}
use Rattle.model.specs.Tree.{Tree, height}
use Rattle.model.specs.Turn as Turn
use Rattle.pool.specs.Node.{fork_cell, fork_in, node_at, put}
use Rattle.pool.specs.declared.node.Fork.{Fork}
use Rattle.turn.specs.Apart.{Apart}
use Rattle.model.specs.Side.{side}
use Rattle.turn.specs.Sites.{Stale, Stores, with_balance}
use Rattle.turn.specs.Words.{Evened, Uneven}
use Rattle.turn.proofs.Changing.{evened_near, higher_side, leveled, put_right, set_right, stale_stores, uneven}
use Rattle.turn.proofs.Differences.{same, none, sum, minus, fits, kept, read, held}
use Rattle.turn.proofs.Read.{fork_height}
use Rattle.turn.proofs.changed.child_changed.Goals as goal

-- a difference of heights that is small
record Small (z : ℤ) (x y : ℕ) : Type 0 where
  is : Apart z x y
  most : x ≤ y + 999
  least : y ≤ x + 999

-- a fork whose child has changed from a height
module _ {w : List ℕ} {n : ℕ} {left : Bool} {was : ℕ} {l r : Tree} (stale : Stale w n left was l r) where
  -- the height of the child, that of the other one, and the fork's, before the child has changed and before the fork is made even
  abbrev own : ℕ
  own = height (side left l r)

  abbrev other : ℕ
  other = height (side left r l)

  abbrev high_before : ℕ
  high_before = suc (max was other)

  abbrev high_after : ℕ
  high_after = suc (max own other)

  -- ---- the balance, seen from the child

  before_held : {f : Fork} → f ≡ fork_in (node_at w n) → (z : ℤ) → SFits w64 z → ((x y : ℕ) → Stores left x y f.balance → Apart z x y)
      → Apart (held z) was other
  before_held {f} says z ok told = kept z ok (told was other (stale_stores left f stale says).0)

  after_is : (z change : ℤ) → Apart (held z) was other → SFits w64 change → Apart change own was
      → Small (held z +ℤ held change) own other
  after_is z change before ok p =
      record {
        is = same _ own other (sum (held z) (held change) before (kept change ok p)) (omega arith);
        most = omega arith;
        least = omega arith;
      }

  -- ---- the growth

  grown_is : (x y z z' : ℤ) → SFits w64 z → SFits w64 z' → Apart x own other → Apart y was other
      → ((i j k : ℕ) → Apart x i k → Apart (pos 0) j k → Apart z (suc (max i j)) k)
      → ((i j k : ℕ) → Apart y i k → Apart (pos 0) j k → Apart z' (suc (max i j)) k)
      → Small (held z -ℤ held z') high_after high_before
  grown_is x y z z' ok ok' p q above above' =
      let new = kept z ok (above own other other p (none other)) in
      let old = kept z' ok' (above' was other other q (none other)) in
      record {
        is = same _ high_after high_before (minus (held z) (held z') new old) (omega arith);
        most = omega arith;
        least = omega arith;
      }

  whole_is : {v v' : List ℕ} (z grown : ℤ) → Apart z high_after high_before → SFits w64 grown → Evened v v' grown n l r
      → Small (z +ℤ held grown) (height (Turn.rebalance n l r)) high_before
  whole_is z grown p ok even =
      let turned = kept grown ok even.change in
      let e = higher_side left l r in
      let f = fork_height n l r in
      let v = evened_near even in
      record {
        is = same _ _ high_before (sum z (held grown) p turned) (omega arith);
        most = omega arith;
        least = omega arith;
      }

held_small : {z : ℤ} {x y : ℕ} → Small z x y → Apart (held z) x y
held_small s = read _ s.is s.most s.least

-- the balance before and after, and the growth, from what the calls answer
record Steps {w : List ℕ} {n : ℕ} {left : Bool} {was : ℕ} {l r : Tree} (stale : Stale w n left was l r) (z change x x' : ℤ) : Type 0 where
  after : Apart (held (held z +ℤ held change)) (own stale) (other stale)
  grown : Small (held x -ℤ held x') (high_after stale) (high_before stale)

steps : {w : List ℕ} {n : ℕ} {left : Bool} {was : ℕ} {l r : Tree} (stale : Stale w n left was l r) {f : Fork} {z change x x' : ℤ}
    → f ≡ fork_in (node_at w n) → SFits w64 z → ((i j : ℕ) → Stores left i j f.balance → Apart z i j)
    → SFits w64 change → Apart change (own stale) was → SFits w64 x → SFits w64 x'
    → ((i j k : ℕ) → Apart (held (held z +ℤ held change)) i k → Apart (pos 0) j k → Apart x (suc (max i j)) k)
    → ((i j k : ℕ) → Apart (held z) i k → Apart (pos 0) j k → Apart x' (suc (max i j)) k)
    → Steps stale z change x x'
steps stale {z = z} {change = change} {x = x} {x' = x'} says ok told fits is okx okx' above above' =
    let b = before_held stale says z ok told in
    let a = held_small (after_is stale z change b fits is) in
    record { after = a; grown = grown_is stale _ _ x x' okx okx' a b above above' }

-- the fork with the balance of the heights now
uneven_now : {w v : List ℕ} {n : ℕ} {left : Bool} {was : ℕ} {l r : Tree} (stale : Stale w n left was l r) {f g : Fork} {b : ℕ}
    → f ≡ fork_in (node_at w n) → g ≡ with_balance f b → Stores left (own stale) (other stale) b → v ≡ put w n (fork_cell g) → Uneven v n l r
uneven_now {left = left} {l = l} {r = r} stale {g = g} says set is e =
    uneven l r stale (put_right l r stale g e) (set_right left l r stale says set is)

-- ---- the goals

pub overflow_sub-grown : goal.overflow_sub-grown
overflow_sub-grown c =
    let p = c.requires in
    let s =
    steps p.3 c.fork_at-fork.ensures (search rules) c.seen-before.ensures c.ranges.change p.4 (search rules) (search rules) c.above.ensures
    c.above-2.ensures in
    fits _ s.grown.is s.grown.most s.grown.least

pub rebalance-requires : goal.rebalance-requires
rebalance-requires c =
    let p = c.requires in
    let s =
    steps p.3 c.fork_at-fork.ensures (search rules) c.seen-before.ensures c.ranges.change p.4 (search rules) (search rules) c.above.ensures
    c.above-2.ensures in
    (p.0, (p.1, uneven_now p.3 c.fork_at-fork.ensures c.with_balance.ensures (c.stored_from.ensures _ _ s.after) c.set_node.ensures))

pub overflow_add-result : goal.overflow_add-result
overflow_add-result c =
    let p = c.requires in
    let s =
    steps p.3 c.fork_at-fork.ensures (search rules) c.seen-before.ensures c.ranges.change p.4 (search rules) (search rules) c.above.ensures
    c.above-2.ensures in
    let u = uneven_now p.3 c.fork_at-fork.ensures c.with_balance.ensures (c.stored_from.ensures _ _ s.after) c.set_node.ensures in
    let t = whole_is p.3 _ c.rebalance.result (held_small s.grown) (search rules) (c.rebalance.ensures p.0 p.1 u) in
    fits _ t.is t.most t.least

pub returns : goal.returns
returns c = λ l r was stale change.
    let s =
    steps stale c.fork_at-fork.ensures (search rules) c.seen-before.ensures c.ranges.change change (search rules) (search rules) c.above.ensures
    c.above-2.ensures in
    let even =
    c.rebalance.ensures l r
    (uneven_now stale c.fork_at-fork.ensures c.with_balance.ensures (c.stored_from.ensures _ _ s.after) c.set_node.ensures) in
    leveled l r stale (put_right l r stale c.with_balance.result c.set_node.ensures) even
    (held_small (whole_is stale _ c.rebalance.result (held_small s.grown) (search rules) even))
