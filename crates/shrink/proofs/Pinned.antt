-- The public contract determines its result: two results that it allows, where a tree and a chain stand as the contract
-- asks, are equal, and in words of whole nodes so are the words afterwards. `Post` takes the lifetimes, the arguments,
-- the result and what the call leaves behind references.
use Prim.Native.Nat.{ℕ, ◌<◌}
use native.Mathlib.Omega.{arith}
use mathlib.Core.Path.{◌≡◌, sym, ◌∙◌}
use borrow.Fn.Kinds.{Dens}
use Rattle.model.specs.Tree.{size}
use Rattle.model.proofs.Rearranged.{rearranged_member}
use Rattle.pool.proofs.Once.{Unbroken}
use Rattle.pool.proofs.OnceChained.{edited_chained_once}
use Rattle.shrink.specs.Removing.{ToRemoveFrom, with_freed}
use Rattle.shrink.proofs.Trimming.{remove_alters}
use Rattle.shrink.proofs.removing.remove.Reads as remove
use Rattle.shrink.proofs.removing.remove.Kinds as remove_kinds

pub remove_pinned : (κs : _) (a : Dens {n = 1} κs remove_kinds.ps) (r r' : _) (w w' : _) (n : ℕ) → Unbroken n a.0.now
    → ToRemoveFrom a.0.now a.1.0 a.1.1.0 → remove.Post κs a r w → remove.Post κs a r' w'
    → (r ≡ r') × (w.0.now ≡ w'.0.now)
remove_pinned κs a r r' w w' n whole b one other =
    let index : ℕ = a.1.1.0 in
    let place = b.place in
    let at = place.at in
    let s = at.site in
    let inside : index < size at.tree = omega (arith, place.within, at.total_is) in
    let all = (remove_alters index at.tree at.free inside s.whole s.balanced).numbers_are in
    let i = one b in
    let o = other b in (
      λ j. record {
        bit = (i.mark ∙ sym o.mark) j;
        chain = record { first = (sym i.first ∙ o.first) j; count = (sym i.count_is ∙ o.count_is) j };
      },
      edited_chained_once n at.end (with_freed place) whole (λ k. rearranged_member k _ _ all)
          i.edited i.chained o.edited o.chained,
    )
