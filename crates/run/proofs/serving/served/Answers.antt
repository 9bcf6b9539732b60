-- The trailer tells what the order may assume; what comes back is put into it where the marks are not as many as before. Assumes nothing.
use native.Mathlib.Omega.{arith}
use borrow.Author.Tests.{leb-true}
use mathlib.Core.Path.{refl, ap, ◌∙◌}
use Rattle.window.specs.Layout.{trailer_in}
use Rattle.run.proofs.Altered.{known, ruled, served_moved, served_still, to_serve}
use Rattle.run.proofs.serving.served.Goals as goal

pub serve-done-requires : goal.serve-done-requires
serve-done-requires c =
    let s = c.requires in
    let k = known s.1 c.trailer_of-trailer.result (c.trailer_of-trailer.ensures ∙ ap trailer_in c.split_at_mut-nodes.ensures.back) in
    (c.args.n, s.0, rw c.split_at_mut-nodes.ensures.front (to_serve s.1 _ _ k (λ yes. omega (arith, leb-true))))

pub returns-then-done-trailer : goal.returns-then-done-trailer
returns-then-done-trailer c =
    λ p s.
    let k = known s c.trailer_of-trailer.result (c.trailer_of-trailer.ensures ∙ ap trailer_in c.split_at_mut-nodes.ensures.back) in
    let x = (rw c.split_at_mut-nodes.ensures.front at c.serve-done.ensures) _ p (to_serve s _ _ k (λ yes. omega (arith, leb-true))) in
    served_moved s (ruled s _ k x refl) _ _ k c.set_trailer.ensures

pub returns-else-done-trailer : goal.returns-else-done-trailer
returns-else-done-trailer c =
    λ p s.
    let k = known s c.trailer_of-trailer.result (c.trailer_of-trailer.ensures ∙ ap trailer_in c.split_at_mut-nodes.ensures.back) in
    let x = (rw c.split_at_mut-nodes.ensures.front at c.serve-done.ensures) _ p (to_serve s _ _ k (λ yes. omega (arith, leb-true))) in
    rw c.split_at_mut-nodes.ensures.back (served_still s (ruled s _ k x refl) _ k c.if-done-trailer.false)
