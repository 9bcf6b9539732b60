-- All marks of the tree go by from the start. Assumes nothing.
use borrow.Author.Rules.{rules}
use mathlib.Core.Path.{◌≡◌, ap, ◌∙◌}
use Rattle.model.specs.Tree.{marks}
use Rattle.quiet.specs.Watching.{start}
use Rattle.quiet.specs.declared.longest.Watch.{Watch}
use Rattle.quiet.proofs.Passed.{watched_longest}
use Rattle.quiet.proofs.longest.longest_quiet.Goals as goal

pub returns : goal.returns
returns c = λ s.
    let begun : c.default.result ≡ start = search rules in
    ap (λ (w : Watch). w.longest) (c.after_tree.ensures s) ∙ rw begun (watched_longest (marks s.tree))
