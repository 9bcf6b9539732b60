-- What is read are the two forks of the tree, and what is written are those of the turned one. Assumes nothing.
use Prim.Native.Nat.{ℕ}
use native.Mathlib.Omega.{arith}
use mathlib.Core.Bool.{Bool}
use mathlib.Core.List.{List}
use mathlib.Core.Path.{◌≡◌, ap, ◌∙◌}
use Rattle.model.specs.Side.{side}
use Rattle.pool.specs.Node.{fork_in, node_at}
use Rattle.pool.specs.declared.node.Fork.{Fork}
use Rattle.pool.specs.declared.node.Node.TheVariants as Node
use Rattle.turn.specs.Forks.{Rising, joined, over}
use Rattle.turn.specs.Words.{Turns}
use Rattle.turn.proofs.Differences.{read}
use Rattle.turn.proofs.Joined.{far_at, joined_height, joined_parts, joined_size, turned_is}
use Rattle.turn.proofs.Places.{turned_words}
use Rattle.turn.proofs.Read.{fork_top}
use Rattle.turn.proofs.turning.turn.Goals as goal

module _ {left : Bool} {w : List ℕ} {n : ℕ} (t : Turns left w n) where
  -- the fork that is to rise stands at its number
  child_stands : node_at w t.b ≡ Node.Fork (over left t.c t.e)
  child_stands = (joined_parts left w n t.a (joined left t.b t.c t.e) t.stands.holds).1.0

  module _ {top : Fork} (says : top ≡ fork_in (node_at w n)) where
    top_is : top ≡ over left t.a (joined left t.b t.c t.e)
    top_is = says ∙ ap fork_in t.stands.holds.0

    module _ {b : ℕ} (far : b ≡ side left top.right top.left) where
      child_at : b ≡ t.b
      child_at = far ∙ far_at top left t.a (joined left t.b t.c t.e) top_is ∙ fork_top t.b _ _

      child_read : node_at w b ≡ Node.Fork (over left t.c t.e)
      child_read = ap (node_at w) child_at ∙ child_stands

      abbrev rising : {child : Fork} → child ≡ fork_in (node_at w b) → Rising left top child
      rising child_says =
          record {
            b = t.b;
            a = t.a;
            c = t.c;
            e = t.e;
            top_is = top_is;
            child_is = child_says ∙ ap fork_in child_read;
            leans = t.leans;
            few = omega (arith, t.stands.few, joined_size left n t.a (joined left t.b t.c t.e), joined_size left t.b t.c t.e);
          }

pub fork_at-child-requires : goal.fork_at-child-requires
fork_at-child-requires c = (_, child_read c.requires c.fork_at-top.ensures c.far_child-b.ensures)

pub new_forks-forks-requires : goal.new_forks-forks-requires
new_forks-forks-requires c = rising c.requires c.fork_at-top.ensures c.far_child-b.ensures c.fork_at-child.ensures

pub returns : goal.returns
returns c = λ t.
    let left = c.args.left in
    let n = c.args.n in
    let forks = c.new_forks-forks.result in
    let risen = c.new_forks-forks.ensures (rising t c.fork_at-top.ensures c.far_child-b.ensures c.fork_at-child.ensures) in
    let h = t.leans in
    let before = joined_height left n t.a (joined left t.b t.c t.e) in
    let after = joined_height left n (joined left t.b t.a t.c) t.e in
    let child = joined_height left t.b t.c t.e in
    let lowered = joined_height left t.b t.a t.c in
    record {
      edited =
          turned_words left _ forks.lowered forks.risen t c.set_node.ensures c.set_node-2.ensures
          (child_at t c.fork_at-top.ensures c.far_child-b.ensures) risen.lowered_is risen.risen_is;
      change = rw (turned_is left n t.b t.a t.c t.e) (read forks.change (risen.change n) (omega arith) (omega arith));
    }
