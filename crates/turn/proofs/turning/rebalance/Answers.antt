-- The stored balance tells which child is two levels higher, if one is. Assumes nothing.
use Prim.Native.Nat.{ℕ, ◌≤◌}
use native.Mathlib.Omega.{arith}
use borrow.Author.Rules.{rules}
use mathlib.Core.Bool.{true, false}
use mathlib.Core.List.{List}
use mathlib.Core.Path.{◌≡◌, sym, ap, subst, ◌∙◌}
use lib.IntN.{ℤ, pos, negsuc}
use Rattle.model.specs.Tree.{Tree, height}
use Rattle.pool.specs.Layout.{fork_of}
use Rattle.pool.specs.Node.{fork_in, node_at}
use Rattle.pool.specs.declared.node.Fork.{Fork}
use Rattle.turn.specs.Apart.{Apart}
use Rattle.turn.specs.Sites.{Stores}
use Rattle.turn.specs.Words.{Child, Uneven}
use Rattle.turn.proofs.Differences.{refuted, tested}
use Rattle.turn.proofs.Evening.{near_child, turns_over, moved_over, stayed, evened, evened_read}
use Rattle.turn.proofs.Joined.{over_stores}
use Rattle.turn.proofs.Read.{fields}
use Rattle.turn.proofs.turning.rebalance.Goals as goal

-- what is read

module _ {w : List ℕ} {n : ℕ} (l r : Tree) (u : Uneven w n l r) {f : Fork} (says : f ≡ fork_in (node_at w n)) where
  read : f ≡ fork_of l r
  read = says ∙ ap fork_in u.stands.holds.0

  stores : Stores true (height l) (height r) f.balance × (f.balance ≤ 4)
  stores = over_stores f true l r read u.left_most u.right_most

  seen : {z : ℤ} → ((x y : ℕ) → Stores true x y f.balance → Apart z x y) → Apart z (height l) (height r)
  seen told = told (height l) (height r) stores.0

  left_at : Child w f.left l
  left_at = subst (λ (i : ℕ). Child w i l) (sym (fields _ l r read).left_is) (near_child true l r u)

  right_at : Child w f.right r
  right_at = subst (λ (i : ℕ). Child w i r) (sym (fields _ l r read).right_is) (near_child false r l u)

pub seen-requires : goal.seen-requires
seen-requires c = let p = c.requires in (stores p.0 p.1.0 p.1.1 c.fork_at-fork.ensures).1

-- ---- the left child is the higher one

pub lean-requires : goal.lean-requires
lean-requires c = let p = c.requires in (p.0, left_at p.0 p.1.0 p.1.1 c.fork_at-fork.ensures)

pub turn-requires : goal.turn-requires
turn-requires c =
    let p = c.requires in
    let says = c.fork_at-fork.ensures in
    let z = c.seen.result in
    let high =
    tested z (pos 2) (search rules) (record { sfits = omega arith }) (search rules)
    (seen p.0 p.1.0 p.1.1 says c.seen.ensures) in
    turns_over true p.0 p.1.0 p.1.1 high.is (c.lean.ensures p.0 (left_at p.0 p.1.0 p.1.1 says))

pub returns-in-2 : goal.returns-in-2
returns-in-2 c = λ l r u.
    let says = c.fork_at-fork.ensures in
    let z = c.seen.result in
    let high =
    tested z (pos 2) (search rules) (record { sfits = omega arith }) (search rules) (seen l r u says c.seen.ensures) in
    evened_read l r u c.turn.result (search rules)
    (moved_over true l r u high.is (c.lean.ensures l (left_at l r u says)) c.turn.ensures)

-- ---- the right child is the higher one

pub lean-requires-in-minus2 : goal.lean-requires-in-minus2
lean-requires-in-minus2 c = let p = c.requires in (p.1.0, right_at p.0 p.1.0 p.1.1 c.fork_at-fork.ensures)

pub turn-requires-in-minus2 : goal.turn-requires-in-minus2
turn-requires-in-minus2 c =
    let p = c.requires in
    let says = c.fork_at-fork.ensures in
    let z = c.seen.result in
    let high =
    tested z (negsuc 1) (search rules) (record { sfits = omega arith }) (search rules)
    (seen p.0 p.1.0 p.1.1 says c.seen.ensures) in
    turns_over false p.1.0 p.0 p.1.1 high.is (c.lean-in-minus2.ensures p.1.0 (right_at p.0 p.1.0 p.1.1 says))

pub returns-in-minus2 : goal.returns-in-minus2
returns-in-minus2 c = λ l r u.
    let says = c.fork_at-fork.ensures in
    let z = c.seen.result in
    let high =
    tested z (negsuc 1) (search rules) (record { sfits = omega arith }) (search rules) (seen l r u says c.seen.ensures) in
    evened_read l r u c.turn-in-minus2.result (search rules)
    (moved_over false r l u high.is (c.lean-in-minus2.ensures r (right_at l r u says)) c.turn-in-minus2.ensures)

-- ---- neither is

pub returns-in_default : goal.returns-in_default
returns-in_default c = λ l r u.
    let z = c.seen.result in
    let s = seen l r u c.fork_at-fork.ensures c.seen.ensures in
    evened l r u
    (stayed l r u
    (λ h. refuted z (pos 2) (search rules) s (record { is = h }))
    (λ h. refuted z (negsuc 1) (search rules) s (record { is = h })))
