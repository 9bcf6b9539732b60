-- The place is beyond the marks; else the tree and the chain are changed. Assumes nothing.
use native.Mathlib.Omega.{arith}
use Rattle.serve.proofs.Edits.{removed, still, to_remove}
use Rattle.serve.proofs.Orderly.{remove_out}
use Rattle.serve.proofs.serving.remove_at.Goals as goal

pub returns-then-held-index : goal.returns-then-held-index
returns-then-held-index c = λ end p s.
    let a = c.args in
    let out = remove_out a.may a.index p (omega (arith, s.total, c.if-held-index.true)) in
    still s _ _ _ c.unmoved.ensures out.0 out.1

pub remove-removed-requires : goal.remove-removed-requires
remove-removed-requires c = let s = c.requires in to_remove s.2 _ c.if-held-index.false

pub returns : goal.returns
returns c =
    λ end p s.
    let within = c.if-held-index.false in
    removed s _ _ within (c.remove-removed.ensures (to_remove s _ within))
