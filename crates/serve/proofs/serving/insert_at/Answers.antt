-- The place is beyond the end, or there is no room; else the tree and the chain are changed. Assumes nothing.
use Prim.Native.Nat.{ℕ, ◌≤◌}
use native.Mathlib.Omega.{arith}
use borrow.Author.Tests.{not-true, not-false}
use mathlib.Core.Bool.{true, false}
use mathlib.Core.Path.{◌≡◌, sym, ◌∙◌}
use Rattle.model.specs.Pool.{Pool, full}
use Rattle.serve.specs.Serving.{ToServe}
use Rattle.serve.proofs.Edits.{inserted, still, to_ask, to_insert}
use Rattle.serve.proofs.Orderly.{insert_full, insert_out}
use Rattle.serve.proofs.serving.insert_at.Goals as goal

pub returns-then-held-index : goal.returns-then-held-index
returns-then-held-index c = λ end p s.
    let a = c.args in
    let out = insert_out a.may a.index a.bit p (omega (arith, s.total, c.if-held-index.true)) in
    still s _ _ _ c.unmoved.ensures out.0 out.1

pub insert-chain-requires : goal.insert-chain-requires
insert-chain-requires c =
    let within : let a = c.args in a.index ≤ a.held.tree.length = omega (arith, c.if-held-index.false) in
    let roomy : (end : ℕ) (p : Pool) → let a = c.args in
    ToServe a.nodes.now end a.held a.may p
    → full a.may a.index p ≡ false = λ end p s. not-true _ (sym (c.room.ensures (to_ask s _ within)) ∙ c.if-room.true) in
    let s = c.requires in
    to_insert s.2 _ within (roomy s.0 s.1 s.2)

pub overflow_add-tree : goal.overflow_add-tree
overflow_add-tree c = let s = c.requires in
    omega (arith, s.2.total, s.2.site.few)

pub returns-then-room : goal.returns-then-room
returns-then-room c =
    let within : let a = c.args in a.index ≤ a.held.tree.length = omega (arith, c.if-held-index.false) in
    let roomy : (end : ℕ) (p : Pool) → let a = c.args in
    ToServe a.nodes.now end a.held a.may p
    → full a.may a.index p ≡ false = λ end p s. not-true _ (sym (c.room.ensures (to_ask s _ within)) ∙ c.if-room.true) in
    λ end p s.
    let inside = within in
    let room = roomy end p s in
    inserted s _ _ _ inside room (c.insert-chain.ensures (to_insert s _ inside room))

pub returns : goal.returns
returns c =
    let within : let a = c.args in a.index ≤ a.held.tree.length = omega (arith, c.if-held-index.false) in
    let none_left : (end : ℕ) (p : Pool) → let a = c.args in
    ToServe a.nodes.now end a.held a.may p
    → full a.may a.index p ≡ true = λ end p s. not-false _ (sym (c.room.ensures (to_ask s _ within)) ∙ c.if-room.false) in
    λ end p s.
    let a = c.args in
    let full = insert_full a.may a.index a.bit p (omega (arith, s.total, within))
    (none_left end p s) in
    still s _ _ _ c.unmoved-2.ensures full.0 full.1
