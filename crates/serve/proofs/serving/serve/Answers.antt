-- The order that the words ask chooses the call; what is no order is malformed. Assumes nothing.
use mathlib.Core.Path.{ap, ◌∙◌}
use Rattle.order.specs.Asked.{asked_of}
use Rattle.serve.proofs.Edits.{asked, malformed, stands}
use Rattle.serve.proofs.Orderly.{access_asks, quiet_asks, rank_asks, select_asks}
use Rattle.serve.proofs.serving.serve.Goals as goal

pub returns-in-Ok-Access : goal.returns-in-Ok-Access
returns-in-Ok-Access c =
    λ end p s. asked s (c.in-Ok-Access.ensures ∙ ap asked_of c.in-Ok-Access.field-0-is) (access_asks _)
    (c.access_at.ensures (stands s)) c.unmoved.ensures

pub returns-in-Ok-Rank : goal.returns-in-Ok-Rank
returns-in-Ok-Rank c =
    λ end p s. asked s (c.in-Ok-Rank.ensures ∙ ap asked_of c.in-Ok-Rank.field-0-is) (rank_asks _ _)
    (c.rank_at.ensures (stands s)) c.unmoved-in-Ok-Rank.ensures

pub returns-in-Ok-Select : goal.returns-in-Ok-Select
returns-in-Ok-Select c =
    λ end p s. asked s (c.in-Ok-Select.ensures ∙ ap asked_of c.in-Ok-Select.field-0-is) (select_asks _ _)
    (c.select_at.ensures (stands s)) c.unmoved-in-Ok-Select.ensures

pub returns-in-Ok-Quiet : goal.returns-in-Ok-Quiet
returns-in-Ok-Quiet c =
    λ end p s. asked s (c.in-Ok-Quiet.ensures ∙ ap asked_of c.in-Ok-Quiet.field-0-is) quiet_asks
    (c.quiet_of.ensures (stands s)) c.unmoved-in-Ok-Quiet.ensures

pub returns-in-Err : goal.returns-in-Err
returns-in-Err c =
    λ end p s. malformed s c.in-Err.ensures.1 (rw c.in-Err.ensures.0 at c.unmoved-in-Err.ensures)
