-- The pool is judged first; where it stands and the output has room, the marks of its tree are written. Assumes nothing.
use Prim.Native.Nat.{ℕ, ◌*◌, ◌^◌, ◌≤◌}
use native.Mathlib.Omega.{arith}
use mathlib.Core.List.{List}
use mathlib.Core.Path.{◌≡◌, sym, ap, ◌∙◌}
use lib.ListN.{take}
use Rattle.std.proofs.lemmas.Result.{err_from_is_err_and}
use Rattle.std.specs.Prelude.{Ok}
use Rattle.model.specs.Pool.{Pool}
use Rattle.model.specs.Tree.{size}
use Rattle.model.specs.Word.{words_for}
use Rattle.model.proofs.Depth.{size_bound}
use Rattle.pool.specs.Layout.{Rooted}
use Rattle.tree.specs.TreeAt.{tree_at}
use Rattle.window.specs.Calls.{Judges}
use Rattle.window.specs.Layout.{Stands}
use Rattle.window.specs.declared.trailer.Trailer.{Trailer}
use Rattle.window.proofs.OneState.{stands_length, stands_root, stands_rooted}
use Rattle.window.proofs.Verdicts.{no_valued, damaged_valued, short_valued, written_valued}
use Rattle.window.proofs.calls.values.Goals as goal

-- the pool that stands, and what its trailer says of it
pub record TrailerRead (ws : List ℕ) (n : ℕ) (t : Trailer) : Type 0 where
  pub pool : Pool
  pub stands : Stands ws n pool
  pub total : t.held.tree.length ≡ size pool.tree
  pub rooted : Rooted (take (n * 6) ws) t.held.tree.node 12 pool.tree
  pub few : size pool.tree ≤ 127 * 2 ^ 12

trailer_read : {ws : List ℕ} {n : ℕ} {t : Trailer} → Judges ws n (Ok t) → TrailerRead ws n t
trailer_read {ws} {n} j =
    let deep = stands_rooted ws n j.0 j.1 in
    record {
      pool = j.0;
      stands = j.1;
      total = ap (λ (x : Trailer). x.held.tree.length) j.2 ∙ stands_length ws n j.1.counted j.0 j.1;
      rooted = rw (ap (λ (x : Trailer). x.held.tree.node) j.2 ∙ stands_root ws n j.1.counted j.0 j.1) deep;
      few = size_bound 0 j.0.tree 12 deep.sized deep.deep;
    }

pub returns-in_err-n : goal.returns-in_err-n
returns-in_err-n c =
    let e = err_from_is_err_and c.from_residual.result c.from_residual.ensures.1 in
    rw (e.1, e.2, c.in_err-n.ensures.0) (no_valued _ c.in_err-n.ensures.1 _)

pub returns-in_err-trailer : goal.returns-in_err-trailer
returns-in_err-trailer c =
    let e = err_from_is_err_and c.from_residual-in_err-trailer.result c.from_residual-in_err-trailer.ensures.1 in
    rw (e.1, e.2, c.in_err-trailer.ensures.0) (damaged_valued _ _ c.in_ok-n.ensures c.in_err-trailer.ensures.1 _)

pub words_for-words-requires : goal.words_for-words-requires
words_for-words-requires c = let s = trailer_read c.in_ok-trailer.ensures in omega (arith, s.total, s.few)

pub returns-then-out-words : goal.returns-then-out-words
returns-then-out-words c =
    let s = trailer_read c.in_ok-trailer.ensures in
    short_valued _ _ s.pool s.stands _ (rw (← s.total, ← c.words_for-words.ensures) c.if-out-words.true)

pub values-requires : goal.values-requires
values-requires c =
    let s = trailer_read c.in_ok-trailer.ensures in
    (tree_at s.pool.tree s.rooted (sym s.total), rw (← c.words_for-words.ensures) c.if-out-words.false)

pub returns : goal.returns
returns c =
    let s = trailer_read c.in_ok-trailer.ensures in
    let e = c.words_for-words.ensures in
    let t = ap words_for s.total in
    written_valued _ _ s.pool s.stands _ _ _ (e ∙ t) (rw (← t, ← e) c.if-out-words.false)
    (c.values.ensures (tree_at s.pool.tree s.rooted (sym s.total)) ∙ rw e)
