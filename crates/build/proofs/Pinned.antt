-- Every public contract determines its result, and the node words that the call leaves: two that it allows for the same arguments are equal.
-- Each law speaks of the contract as the check reads it off the source.
use Prim.Native.Nat.{ℕ, ◌-◌, ◌*◌, ◌≤◌}
use native.Mathlib.Omega.{arith}
use mathlib.Core.Path.{◌≡◌, sym, ◌∙◌}
use mathlib.Core.Bool.{Bool}
use mathlib.Core.List.{List}
use lib.ListN.{length, take}
use lib.Seq.{length-take-le}
use Rattle.model.specs.Contract.{Pinned}
use Rattle.model.specs.Build.{leaf_count}
use Rattle.model.specs.Pool.{nodes_for}
use Rattle.model.specs.Word.{marks_of}
use Rattle.model.proofs.BuiltNumbers.{pool_numbers}
use Rattle.pool.specs.Node.{nodes_in}
use Rattle.build.proofs.LeafMarks.{marks_of_length}
use Rattle.build.proofs.OnePool.{builds, laid_one}
use Rattle.build.proofs.building.build.Reads as build
use Rattle.build.proofs.building.leaf_count.Reads as leaf_count_of

pub leaf_count_pinned : Pinned leaf_count_of.Post
leaf_count_pinned κs a r r' w w' p q = p ∙ sym q

pub build_pinned : (κs : _) (a : _) (r r' : _) (w w' : _) → build.Pre κs a → build.Post κs a r w → build.Post κs a r' w'
    → (r ≡ r') × (w.0.now ≡ w'.0.now)
unfolding nodes_for
build_pinned κs a r r' w w' room p q =
    let n : ℕ = nodes_in a.0.now in
    let total : ℕ = a.1.1.0 in
    let xs : List Bool = take total (marks_of a.1.0.now) in
    let all : length xs ≡ total = length-take-le total (marks_of a.1.0.now) (omega (arith, marks_of_length a.1.0.now, room.given)) in
    let fits : 2 * leaf_count (length xs) - 1 ≤ n = rw all room.enough in
    let (pool, e) = builds n xs fits in
    let s = p pool e in
    let t = q pool e in (
      λ i. record {
        tree = record { node = (s.root ∙ sym t.root) i; length = (s.total ∙ sym t.total) i };
        chain = record { first = (s.first ∙ sym t.first) i; count = (s.count ∙ sym t.count) i };
      },
      laid_one s.laid t.laid (pool_numbers n xs pool e),
    )
