-- The tests in their sequence; then the model's pool is built into the nodes, and its trailer is put behind them. Assumes nothing.
use Prim.Native.Nat.{ℕ, ◌+◌, ◌*◌, ◌/◌, ◌<◌, ◌≤◌}
use native.Mathlib.Omega.{arith}
use mathlib.Core.Bool.{Bool, false}
use mathlib.Core.List.{List}
use mathlib.Core.Path.{◌≡◌}
use lib.ListN.{length}
use Rattle.std.proofs.lemmas.Result.{err_from_is_err_and}
use Rattle.model.specs.Build.{leaf_count}
use Rattle.model.specs.Says.{Says}
use Rattle.window.specs.Layout.{Counted}
use Rattle.window.proofs.Builds.{no_built, long_built, full_built, Fits, after_stands}
use Rattle.window.proofs.Verdicts.{says_not}
use Rattle.window.proofs.calls.build.Goals as goal

-- the words are a pool's, they hold so many marks, and its nodes the leaves of them
fitting : {ws words : List ℕ} {len n leaves : ℕ} {long : Bool} → Counted ws n → Says (64 * length words < len) long → long ≡ false
    → leaves ≡ leaf_count len → leaves ≤ (n + 1) / 2 → Fits ws words len n
fitting m s not e enough = let t = says_not s not in record { counted = m; given = omega (arith, t); enough = omega (arith, e, enough) }

pub returns-in_err-n : goal.returns-in_err-n
returns-in_err-n c =
    let e = err_from_is_err_and c.from_residual.result c.from_residual.ensures.1 in
    rw (e.1, e.2, c.in_err-n.ensures.0) (no_built _ _ _ c.in_err-n.ensures.1)

pub returns-then-too_few : goal.returns-then-too_few
returns-then-too_few c = long_built _ _ _ _ c.in_ok-n.ensures (c.too_few.ensures.yes c.if-too_few.true)

pub returns-then-n-leaf_count : goal.returns-then-n-leaf_count
returns-then-n-leaf_count c =
    full_built _ _ _ _ c.in_ok-n.ensures (let t = says_not c.too_few.ensures c.if-too_few.false in omega (arith, t))
    (omega (arith, c.if-n-leaf_count.true, c.leaf_count.ensures))

pub returns : goal.returns
returns c =
    let f = fitting c.in_ok-n.ensures c.too_few.ensures c.if-too_few.false c.leaf_count.ensures c.if-n-leaf_count.false in
    after_stands f _ _ (rw c.split_at_mut-nodes.ensures.front at c.build.ensures) _ c.set_trailer.ensures
