-- Each pass frees one more number, which holds the next. Assumes nothing.
use Prim.Native.Nat.{ℕ, ◌+◌, ◌-◌}
use native.Mathlib.Omega.{arith}
use mathlib.Core.Path.{◌≡◌, refl, ap}
use Rattle.pool.specs.Node.{nodes_in}
use Rattle.build.proofs.FreeChain.{chained_from, one_freed}
use Rattle.build.proofs.building.chain_from.Goals as goal

pub loop-n-preserved : goal.loop-n-preserved
loop-n-preserved c =
    one_freed c.set_node.new.nodes c.loop-n.invariant (omega arith) (omega (arith, c.node_count-end.ensures)) c.set_node.ensures

pub returns : goal.returns
returns c =
    let s = c.loop-n in
    let a = c.args in
    let f = s.invariant in
    let end = c.node_count-end.ensures in
    let last : s.n ≡ nodes_in a.nodes.now = omega arith in
    let all : a.first + (nodes_in a.nodes.now - a.first) ≡ nodes_in a.nodes.now = omega arith in
    record {
      kept = f.size;
      begin = refl;
      many = ap (λ (n : ℕ). n - a.first) end;
      below = f.kept;
      chain = chained_from s.nodes (nodes_in a.nodes.now) a.first (nodes_in a.nodes.now - a.first) all
          (λ j l h. f.free j l (omega arith));
    }
