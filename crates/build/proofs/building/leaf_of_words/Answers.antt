-- A leaf's marks are the first bits of its word, and none where none are left. Assumes nothing.
use Prim.Native.Nat.{ℕ, ◌<◌}
use native.Mathlib.Omega.{arith}
use mathlib.Core.Path.{sym, ap, ◌∙◌}
use mathlib.Core.List.{List}
use lib.ListN.{length, get_or, take}
use Rattle.model.specs.Word.{bits}
use Rattle.bits.specs.Leaf.{leaf_of}
use Rattle.build.proofs.LeafMarks.{leaf_marks_none, leaf_marks_word, leaf_of_none}
use Rattle.build.proofs.building.leaf_of_words.Goals as goal

pub returns-then-total-eq0 : goal.returns-then-total-eq0
returns-then-total-eq0 c =
    let a = c.args in
    leaf_of_none ∙ ap leaf_of (sym (leaf_marks_none a.words.now a.length a.i (omega arith)))

pub returns : goal.returns
returns c =
    let a = c.args in
    let ws : List ℕ = a.words.now in
    let here : a.i < length ws = omega arith in
    c.first_marks.ensures
    ∙ ap (λ (n : ℕ). leaf_of (take n (bits 64 (get_or ws a.i 0)))) c.leaf_total-total.ensures
    ∙ ap leaf_of (sym (leaf_marks_word ws a.length a.i (omega arith) here))
