-- The trailer's words are read, and the nodes are judged with them; a pool that stands has just these words. Assumes nothing.
use Prim.Native.Nat.{ℕ}
use native.Mathlib.Omega.{arith}
use mathlib.Core.Path.{◌≡◌, refl, ap, ◌∙◌}
use Rattle.window.specs.Layout.{trailer_in}
use Rattle.window.proofs.OneState.{well_at, correct_stands, stands_correct, stands_nodes, stands_last}
use Rattle.window.proofs.calls.judged.Goals as goal
use Rattle.window.proofs.calls.judged.Goals.{then-trailer-n-via-then-trailer-n, then-trailer-n-via-else-trailer-n+then-trailer-ne0}

pub returns-then-trailer-n : goal.returns-then-trailer-n
returns-then-trailer-n c = (
  refl,
  λ x.
      let q = well_at c.args.pool.now c.args.n c.requires x in
      let t = c.trailer_of-trailer.ensures ∙ ap trailer_in c.split_at.ensures.back in
      elim c.then-trailer-n.branch [
        | then-trailer-n-via-then-trailer-n w ↦ w.if-trailer-n.true (rw t (stands_nodes c.args.pool.now c.args.n c.requires q.0 q.1))
        | then-trailer-n-via-else-trailer-n+then-trailer-ne0 w ↦
            w.if-trailer-ne0.true (rw t (stands_last c.args.pool.now c.args.n c.requires q.0 q.1))
      ],
)

pub returns-then-not-sound : goal.returns-then-not-sound
returns-then-not-sound c = (
  refl,
  λ x.
      let q = well_at c.args.pool.now c.args.n c.requires x in
      let t = c.trailer_of-trailer.ensures ∙ ap trailer_in c.split_at.ensures.back in
      let yes =
      (rw (t, c.split_at.ensures.front) at c.sound.ensures).no q.0 (stands_correct c.args.pool.now c.args.n c.requires q.0 q.1) in
      let no = c.if-not-sound.true in
      let never : ◌≡◌ {A = ℕ} 0 1 = cc in
      omega arith,
)

pub returns : goal.returns
returns c =
    let t = c.trailer_of-trailer.ensures ∙ ap trailer_in c.split_at.ensures.back in
    let p = (rw (t, c.split_at.ensures.front) at c.sound.ensures).yes c.if-not-sound.false in (
      p.0,
      correct_stands c.args.pool.now c.args.n c.requires p.0 (rw t at c.if-trailer-n.false) (rw t at c.if-trailer-ne0.false) p.1,
      t,
    )
