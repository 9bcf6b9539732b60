-- The leaves, the rounds and the chain, one after the other, make the pool that the model builds. Assumes nothing.
use Prim.Native.Nat.{ℕ, ◌-◌, ◌*◌}
use native.Mathlib.Omega.{arith}
use mathlib.Core.Path.{◌≡◌, sym, ap, ◌∙◌}
use mathlib.Core.Bool.{Bool}
use mathlib.Core.List.{List, reverse}
use lib.ListN.{length, take}
use lib.Seq.{length-take-le}
use Rattle.model.specs.Build.{built_leaves, leaf_count}
use Rattle.model.specs.Word.{marks_of}
use Rattle.pool.specs.Node.{nodes_in}
use Rattle.build.proofs.LeafMarks.{marks_of_length}
use Rattle.build.proofs.WholeBuild.{stands}
use Rattle.build.proofs.building.build.Goals as goal

pub returns : goal.returns
returns c p f =
    let a = c.args in
    let room = c.requires in
    let k : ℕ = c.leaf_count-leaves.result in
    let e = c.leaf_count-leaves.ensures in
    let leaves = c.put_leaves-row in
    let node = c.rounds-node in
    let chain = c.chain_from-chain in
    let xs : List Bool = take a.length (marks_of a.words.now) in
    let all : length xs ≡ a.length =
    length-take-le a.length (marks_of a.words.now) (omega (arith, marks_of_length a.words.now, room.given)) in
    let one = leaves.ensures.kept in
    let two = node.ensures.kept in
    let three = chain.ensures.kept in
    let first : chain.result.first ≡ 2 * k - 1 = omega (arith, chain.ensures.begin) in
    let many : chain.result.count ≡ nodes_in a.nodes.now - (2 * k - 1) = omega (arith, chain.ensures.many) in
    let same : nodes_in node.new.nodes ≡ nodes_in a.nodes.now = omega arith in
    let need : k * 2 - 1 ≡ 2 * k - 1 = omega arith in
    stands node.new.nodes chain.new.nodes (nodes_in a.nodes.now) k xs _ p
    (e ∙ ap leaf_count (sym all)) f (omega (arith, room.enough))
    (rw leaves.ensures.many at (node.ensures.done (reverse (built_leaves 0 k xs)) leaves.ensures.wait)) (sym all)
    (rw need at chain.ensures.below) (omega (arith, room.whole)) first many (rw (same, need) at chain.ensures.chain)
