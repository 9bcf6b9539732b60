-- Every public contract determines its result: two results that it allows, where a tree and a chain stand as the
-- contract asks, are equal, and for the insert into words of whole nodes so are the words afterwards. `Post` takes the
-- lifetimes, the arguments, the result and what the call leaves behind references.
use Prim.Native.Nat.{ℕ}
use native.Mathlib.Omega.{arith}
use mathlib.Core.Path.{◌≡◌, sym, ◌∙◌}
use mathlib.Core.Bool.{Bool}
use borrow.Fn.Kinds.{Dens}
use Rattle.model.proofs.Rearranged.{rearranged_member}
use Rattle.pool.proofs.Once.{Unbroken}
use Rattle.pool.proofs.OnceChained.{edited_chained_once}
use Rattle.grow.specs.Inserting.{ToAsk, ToInsertInto, left_over}
use Rattle.grow.proofs.Altering.{insert_all}
use Rattle.grow.proofs.inserting.insert.Reads as insert
use Rattle.grow.proofs.inserting.insert.Kinds as insert_kinds
use Rattle.grow.proofs.inserting.room.Reads as room
use Rattle.grow.proofs.inserting.room.Kinds as room_kinds

pub room_pinned : (κs : _) (a : Dens {n = 1} κs room_kinds.ps) (r r' : _) (w w' : _)
    → ToAsk a.0.now a.1.0 a.1.1.1.0 → room.Post κs a r w → room.Post κs a r' w' → r ≡ r'
room_pinned κs a r r' w w' b one other = one b ∙ sym (other b)

pub insert_pinned : (κs : _) (a : Dens {n = 1} κs insert_kinds.ps) (r r' : _) (w w' : _) (n : ℕ) → Unbroken n a.0.now
    → ToInsertInto a.0.now a.1.0 a.1.1.0 → insert.Post κs a r w → insert.Post κs a r' w'
    → (r ≡ r') × (w.0.now ≡ w'.0.now)
insert_pinned κs a r r' w w' n whole b one other =
    let index : ℕ = a.1.1.0 in
    let bit : Bool = a.1.1.1.0 in
    let i = one b in
    let o = other b in
    let place = b.place in
    let at = place.at in
    let all = insert_all index bit at.free at.tree (omega (arith, place.within, at.total_is)) place.room in (
      λ j. record { first = (sym i.first ∙ o.first) j; count = (sym i.count_is ∙ o.count_is) j },
      edited_chained_once n at.end (left_over place) whole (λ k. rearranged_member k _ _ all)
          i.edited i.chained o.edited o.chained,
    )
