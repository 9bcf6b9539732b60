-- The marks are taken in over an output of which nothing is written yet, and then it is finished. Assumes nothing.
use Prim.Native.Nat.{ℕ}
use native.Mathlib.Omega.{arith}
use borrow.Author.Rules.{rules}
use mathlib.Core.List.{[], ◌++◌}
use lib.ListN.{drop}
use mathlib.Core.Path.{◌≡◌, sym, ap, ◌∙◌}
use Rattle.model.specs.Tree.{marks}
use Rattle.model.specs.Word.{words_for, words_of}
use Rattle.model.proofs.Content.{size_marks}
use Rattle.model.proofs.Depth.{size_bound}
use Rattle.values.proofs.Output.{begun, room_for}
use Rattle.values.proofs.writing.values.Goals as goal

pub add_marks-requires : goal.add_marks-requires
add_marks-requires c =
    let s = c.requires.0 in
    (s, omega arith, omega (arith, s.total, size_bound 0 s.tree 12 s.rooted.sized s.rooted.deep))

pub words_for-requires : goal.words_for-requires
words_for-requires c =
    let s = c.requires.0 in
    omega (arith, s.total, size_bound 0 s.tree 12 s.rooted.sized s.rooted.deep)

pub returns : goal.returns
returns c = λ s.
    let words = c.words_for.ensures in
    let out = c.args.out.now in
    let count : c.args.root.length ≡ _ = sym s.total ∙ size_marks s.tree in
    let room = room_for s.tree _ s.total _ c.requires.1 in
    let start : c.default.result ≡ record { full = 0; filled = 0; word = 0 } = search rules in
    let told =
    c.finish.ensures.written out (marks s.tree) (words ∙ ap words_for count) (rw words c.requires.1)
    (c.add_marks.ensures.adds s out [] (rw start room) (rw start (begun out)))
    ∙ ap (λ (n : ℕ). words_of n (marks s.tree) ++ drop n out) words in
    search (rules, told)
