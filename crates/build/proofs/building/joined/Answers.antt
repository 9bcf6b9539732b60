-- The left tree's strikes are those before its end; all else is written as it stands.
-- Assumes nothing.
use Prim.Native.Nat.{ℕ, ◌+◌}
use native.Mathlib.Omega.{arith}
use mathlib.Core.Path.{◌≡◌, ap, ◌∙◌}
use mathlib.Core.Bool.{true}
use lib.Seq.{take_all}
use Rattle.model.specs.Marks.{count, rank}
use Rattle.model.specs.Tree.{Tree, marks, size}
use Rattle.model.proofs.Content.{size_marks}
use Rattle.pool.specs.Node.{fork_cell, put}
use Rattle.build.specs.Waiting.{fork_over}
use Rattle.build.specs.declared.building.Item.{Item}
use Rattle.build.proofs.building.joined.Goals as goal

rank-all : (t : Tree) (n : ℕ) → size t ≡ n → rank true n (marks t) ≡ count true (marks t)
unfolding rank
rank-all t n e = ap (count true) (take_all n (marks t) (omega (arith, size_marks t)))

pub rank-ones-requires : goal.rank-ones-requires
rank-ones-requires c =
    (c.requires.stands, omega arith)

pub returns : goal.returns
returns c =
    let a = c.args in
    let item : ℕ → Item = λ h. record { tree = record { node = a.n; length = a.left.tree.length + a.right.tree.length }; height = h } in
    record {
      item = ap item (omega arith);
      stored = λ s.
          let ones = c.rank-ones.ensures s ∙ rank-all s.tree a.left.tree.length s.total in
          c.set_node.ensures ∙ ap (λ (k : ℕ). put a.nodes.now a.n (fork_cell (fork_over a.left a.right k))) ones;
    }
