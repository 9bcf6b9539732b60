-- The wanted bits are the set ones of the word chosen for them, searched as a word of 64. Assumes nothing.
use Prim.Native.Nat.{◌+◌, ◌-◌}
use native.Mathlib.Omega.{arith}
use mathlib.Core.Path.{◌≡◌, ◌∙◌}
use Rattle.select.proofs.Widths.{chosen_count, chosen_place}
use Rattle.select.proofs.select.select_word.Goals as goal

pub kth_set-requires : goal.kth_set-requires
kth_set-requires g c =
    let w = g.W.Word in
    let n = w.width in
    let whole : 64 ≡ n + (64 - n) = omega (arith, g.met.W.Word.at_most_64) in
    let v = c.chosen-value.ensures in
    c.ones.ensures ∙ rw c.wide.ensures (chosen_count n (64 - n) whole c.args.bit (w.number c.args.word) v.fits v.same)

pub returns : goal.returns
returns g c =
    let w = g.W.Word in
    let n = w.width in
    let whole : 64 ≡ n + (64 - n) = omega (arith, g.met.W.Word.at_most_64) in
    let v = c.chosen-value.ensures in
    c.kth_set.ensures ∙ rw c.wide.ensures (chosen_place n (64 - n) whole c.args.bit (w.number c.args.word) v.fits v.same c.args.k)
