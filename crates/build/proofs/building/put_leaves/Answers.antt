-- Each pass puts one more leaf in front of the row. Assumes nothing.
use Prim.Native.Nat.{ℕ, ◌*◌, ◌≤◌}
use native.Mathlib.Numerals.{add-one}
use native.Mathlib.Omega.{arith}
use mathlib.Core.Path.{◌≡◌, refl, sym, ap, ◌∙◌}
use mathlib.Core.List.{List}
use lib.ListN.{length as count_of, take}
use lib.Seq.{length-take-le}
use Rattle.model.specs.Build.{leaf_count}
use Rattle.model.specs.Word.{marks_of}
use Rattle.model.proofs.Rounds.{leaf_count_some}
use Rattle.bits.specs.declared.leaf.Leaf.{Leaf}
use Rattle.pool.specs.Node.{leaf_cell, put}
use Rattle.build.specs.Waiting.{leaf_marks}
use Rattle.build.proofs.LeafMarks.{marks_of_length}
use Rattle.build.proofs.OneRound.{leaf_begins}
use Rattle.build.proofs.PutLeaves.{all_begun, one_begun}
use Rattle.build.proofs.building.put_leaves.Goals as goal

-- the marks are as many as are built
all-marks : (words : List ℕ) (length leaves : ℕ) → length ≤ 64 * count_of words → leaves ≡ leaf_count length
    → leaves ≡ leaf_count (count_of (take length (marks_of words)))
all-marks words length leaves given e =
    e ∙ ap leaf_count (sym (length-take-le length (marks_of words) (omega (arith, marks_of_length words))))

pub leaf_of_words-requires : goal.leaf_of_words-requires
leaf_of_words-requires c =
    let a = c.args in
    let all = c.requires.all in
    (leaf_begins c.loop-i.i a.length (omega arith), c.requires.given)

pub loop-i-preserved : goal.loop-i-preserved
unfolding leaf_marks
loop-i-preserved c =
    let s = c.loop-i in
    let a = c.args in
    let p = c.set_node in
    let size : count_of p.new.nodes ≡ count_of s.nodes = p.auto.nodes in
    let leaf : Leaf → List ℕ = λ l. put s.nodes s.i (leaf_cell l) in (
      omega arith,
      rw add-one (one_begun p.new.nodes s.invariant.1 (all-marks a.words.now a.length a.leaves c.requires.given c.requires.all)
          (omega arith) (omega arith) (p.ensures ∙ ap leaf c.leaf_of_words.ensures)),
    )

pub overflow_sub-result : goal.overflow_sub-result
overflow_sub-result c =
    omega (arith, c.requires.all, leaf_count_some c.args.length)

pub returns : goal.returns
returns c =
    let s = c.loop-i in
    let some = leaf_count_some c.args.length in
    let all = c.requires.all in
    record { kept = s.invariant.0; many = refl; wait = all_begun s.invariant.1 (omega arith) (omega arith) (omega (arith, c.requires.most)) }
