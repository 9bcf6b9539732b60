-- A child that leans is turned, and any other stays as it is. Assumes nothing.
use Prim.Native.Nat.{ℕ}
use native.Mathlib.Omega.{arith}
use borrow.Author.Rules.{rules}
use mathlib.Core.Bool.{Bool}
use mathlib.Core.Path.{◌≡◌, subst, ◌∙◌, sym}
use lib.IntN.{ℤ, negsuc}
use Rattle.turn.specs.Apart.{Apart}
use Rattle.model.specs.Side.{side}
use Rattle.turn.specs.Sites.{Stores}
use Rattle.turn.proofs.Differences.{refuted, tested}
use Rattle.turn.proofs.Evening.{child_node, child_turns, leant, stood}
use Rattle.turn.proofs.Joined.{stores_itself}
use Rattle.turn.proofs.Leaning.{away_most, balance_of, balance_small}
use Rattle.turn.proofs.turning.lean.Goals as goal

-- the balance, seen from the side
seen : (left : Bool) (s : ℕ) {b : ℕ} {z : ℤ} → ((x y : ℕ) → Stores left x y b → Apart z x y) → b ≡ s
    → Apart z (side left 2 s) (side left s 2)
seen left s told same =
    told (side left 2 s) (side left s 2)
    (subst (Stores left (side left 2 s) (side left s 2)) (sym same) (stores_itself left s))

-- that of a child that leans to the other side
abbrev away : ℤ
away = negsuc 0

pub balance_at-requires : goal.balance_at-requires
balance_at-requires c = let p = c.requires in (child_node p.0 p.1).0

pub seen-requires : goal.seen-requires
seen-requires c =
    let p = c.requires in omega (arith, c.balance_at.ensures ∙ (child_node p.0 p.1).1, balance_small p.0 p.1.balanced)

pub turn-requires : goal.turn-requires
turn-requires c =
    let p = c.requires in
    let left = c.args.left in
    let z = c.seen.result in
    let s = seen left (balance_of p.0) c.seen.ensures (c.balance_at.ensures ∙ (child_node p.0 p.1).1) in
    let is = tested z away (search rules) (record { sfits = omega arith }) c.if-seen.true s in
    child_turns left p.0 p.1 (omega (arith, is.is, away_most left p.0 p.1.balanced))

pub returns-then-seen : goal.returns-then-seen
returns-then-seen c = λ t k.
    let left = c.args.left in
    let z = c.seen.result in
    let s = seen left (balance_of t) c.seen.ensures (c.balance_at.ensures ∙ (child_node t k).1) in
    let is = tested z away (search rules) (record { sfits = omega arith }) c.if-seen.true s in
    leant left t k (omega (arith, is.is, away_most left t k.balanced)) c.turn.ensures

pub returns-else-seen : goal.returns-else-seen
returns-else-seen c = λ t k.
    let left = c.args.left in
    let s = seen left (balance_of t) c.seen.ensures (c.balance_at.ensures ∙ (child_node t k).1) in
    stood left t k (λ h. refuted c.seen.result away c.if-seen.false s (record { is = omega arith }))
