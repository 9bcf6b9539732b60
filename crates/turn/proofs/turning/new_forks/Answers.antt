-- The balances are those of the turned trees; what a left child holds is the sum of what two hold, or what one holds less the other. Assumes nothing.
use Prim.Native.Nat.{ℕ, suc, ◌≤◌, max}
use native.Mathlib.Omega.{arith}
use borrow.Author.Rules.{rules}
use mathlib.Core.Bool.{Bool}
use lib.IntN.{ℤ}
use mir.Syntax.{w64}
use mir.Val.{SFits}
use Rattle.model.specs.Tree.{Tree, height}
use Rattle.pool.specs.declared.node.Fork.{Fork}
use Rattle.turn.specs.Apart.{Apart, Balances, Within}
use Rattle.turn.specs.Forks.{Heights, Leans, Rising, joined}
use Rattle.turn.specs.Sites.{Stores}
use Rattle.turn.specs.declared.turning.Turned.{Turned}
use Rattle.turn.proofs.Differences.{read, kept, within, held}
use Rattle.turn.proofs.Joined.{over_stores, joined_height}
use Rattle.turn.proofs.Rising.{Read, Stored, fits_left, fits_right, made_left, made_right}
use Rattle.turn.proofs.turning.new_forks.Goals as goal

-- ---- the balances before, seen from A

module _ {left : Bool} {top child : Fork} (t : Rising left top child) where
  abbrev risen : Tree
  risen = joined left t.b t.c t.e

  child_stores : Stores left (height t.c) (height t.e) child.balance × (child.balance ≤ 4)
  child_stores = let h = t.leans in over_stores child left t.c t.e t.child_is (omega arith) (omega arith)

  top_stores : Stores left (height t.a) (height risen) top.balance × (top.balance ≤ 4)
  top_stores =
      let h = t.leans in
      let k = joined_height left t.b t.c t.e in
      over_stores top left t.a risen t.top_is (omega arith) (omega arith)

  abbrev heights : (x y : ℤ) → SFits w64 x → SFits w64 y → ((i j : ℕ) → Stores left i j child.balance → Apart x i j)
      → ((i j : ℕ) → Stores left i j top.balance → Apart y i j) → Heights (held x) (held y)
  heights x y f g child_seen top_seen =
      record {
        a = height t.a;
        c = height t.c;
        e = height t.e;
        child_is = kept x f (child_seen (height t.c) (height t.e) child_stores.0);
        top_is = rw (joined_height left t.b t.c t.e) at (kept y g (top_seen (height t.a) (height risen) top_stores.0));
        leans = t.leans;
      }

  are_read : Read left top child t.b t.a t.c t.e
  are_read = record { top_is = t.top_is; child_is = t.child_is }

-- ---- the balances after

module _ (a c e : Tree) (h : Leans (height e) (height c) (height a)) where
  lowered_seen : (z : ℤ) → Apart z (height a) (height c) → Apart (held z) (height a) (height c)
  lowered_seen z p = read z p (omega arith) (omega arith)

  risen_seen : (z : ℤ) → Apart z (suc (max (height a) (height c))) (height e) → Apart (held z) (suc (max (height a) (height c))) (height e)
  risen_seen z p = read z p (omega arith) (omega arith)

  change_is : (left : Bool) (b n : ℕ) (z : ℤ)
      → Apart z (suc (max (suc (max (height a) (height c))) (height e))) (suc (max (height a) (suc (max (height c) (height e)))))
      → Apart (held z) (height (joined left n (joined left b a c) e)) (height (joined left n a (joined left b c e)))
  change_is left b n z p =
      let after = joined_height left n (joined left b a c) e in
      let before = joined_height left n a (joined left b c e) in
      rw (after, before, joined_height left b a c, joined_height left b c e) (read z p (omega arith) (omega arith))

-- ---- what the turn makes of them

module _ {left : Bool} {top child : Fork} (t : Rising left top child) {z : Turned} where
  told : (x y : ℤ) → SFits w64 x → SFits w64 y → ((i j : ℕ) → Stores left i j child.balance → Apart x i j)
      → ((i j : ℕ) → Stores left i j top.balance → Apart y i j) → ((h : Heights (held x) (held y)) → Balances z h.a h.c h.e)
      → Balances z (height t.a) (height t.c) (height t.e)
  told x y f g child_seen top_seen all = all (heights t x y f g child_seen top_seen)

  module _ (s : Balances z (height t.a) (height t.c) (height t.e)) where
    lowered_within : Within 2 (held z.lowered)
    lowered_within = let h = t.leans in within 2 _ (lowered_seen t.a t.c t.e h _ s.lowered) (omega arith) (omega arith)

    risen_within : Within 2 (held z.risen)
    risen_within = let h = t.leans in within 2 _ (risen_seen t.a t.c t.e h _ s.risen) (omega arith) (omega arith)

    are_stored : {lowered risen : ℕ} → ((x y : ℕ) → Apart (held z.lowered) x y → Stores left x y lowered)
        → ((x y : ℕ) → Apart (held z.risen) x y → Stores left x y risen) → Stored left lowered risen t.b t.a t.c t.e
    are_stored p q =
        record {
          lowered_is = p _ _ (lowered_seen t.a t.c t.e t.leans z.lowered s.lowered);
          risen_is = rw (joined_height left t.b t.a t.c) (q _ _ (risen_seen t.a t.c t.e t.leans z.risen s.risen));
        }

    changed : (n : ℕ)
        → Apart (held z.change) (height (joined left n (joined left t.b t.a t.c) t.e)) (height (joined left n t.a (joined left t.b t.c t.e)))
    changed n = change_is t.a t.c t.e t.leans left t.b n z.change s.change

-- ---- the goals

pub seen-requires : goal.seen-requires
seen-requires c = (child_stores c.requires).1

pub seen-requires-2 : goal.seen-requires-2
seen-requires-2 c = (top_stores c.requires).1

pub balances-turned-requires : goal.balances-turned-requires
balances-turned-requires c = heights c.requires c.seen.result c.seen-2.result (search rules) (search rules) c.seen.ensures c.seen-2.ensures

pub stored_from-lowered-requires : goal.stored_from-lowered-requires
stored_from-lowered-requires c =
    let t = c.requires in
    lowered_within t
    (told t c.seen.result c.seen-2.result (search rules) (search rules) c.seen.ensures c.seen-2.ensures c.balances-turned.ensures)

pub stored_from-risen-requires : goal.stored_from-risen-requires
stored_from-risen-requires c =
    let t = c.requires in
    risen_within t
    (told t c.seen.result c.seen-2.result (search rules) (search rules) c.seen.ensures c.seen-2.ensures c.balances-turned.ensures)

-- to the left

pub overflow_add-result : goal.overflow_add-result
overflow_add-result c =
    let t = c.requires in omega (arith, (fits_left t.b t.a t.c t.e c.args.left c.if-left.true (are_read t) t.few).0)

pub overflow_add-result-then-left : goal.overflow_add-result-then-left
overflow_add-result-then-left c =
    let t = c.requires in omega (arith, (fits_left t.b t.a t.c t.e c.args.left c.if-left.true (are_read t) t.few).1)

pub returns-then-left : goal.returns-then-left
returns-then-left c = λ t.
    let s = told t c.seen.result c.seen-2.result (search rules) (search rules) c.seen.ensures c.seen-2.ensures c.balances-turned.ensures in
    let stored = are_stored t s c.stored_from-lowered.ensures c.stored_from-risen.ensures in
    let forks = made_left t.b t.a t.c t.e c.args.left c.if-left.true (are_read t) stored in
    record { lowered_is = forks.0; risen_is = forks.1; change = changed t s }

-- to the right

pub overflow_sub-result : goal.overflow_sub-result
overflow_sub-result c = let t = c.requires in (fits_right t.b t.a t.c t.e c.args.left c.if-left.false (are_read t)).0

pub overflow_sub-result-2 : goal.overflow_sub-result-2
overflow_sub-result-2 c = let t = c.requires in (fits_right t.b t.a t.c t.e c.args.left c.if-left.false (are_read t)).1

pub returns : goal.returns
returns c = λ t.
    let s = told t c.seen.result c.seen-2.result (search rules) (search rules) c.seen.ensures c.seen-2.ensures c.balances-turned.ensures in
    let stored = are_stored t s c.stored_from-lowered.ensures c.stored_from-risen.ensures in
    let forks = made_right t.b t.a t.c t.e c.args.left c.if-left.false (are_read t) stored in
    record { lowered_is = forks.0; risen_is = forks.1; change = changed t s }
