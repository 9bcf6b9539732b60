-- Every exported contract determines its reply, and the words that the call leaves. Each law speaks of the contract as the check reads it off
-- the source.
use mathlib.Core.Path.{◌≡◌, sym, ◌∙◌}
use Rattle.model.specs.Contract.{Pinned}
use Rattle.run.proofs.Pinned.{ran_one}
use Rattle.window.proofs.Pinned.{checked_one, builds_one, valued_one}
use Rattle.spelunzone.proofs.Replies.{one_reply}
use Rattle.spelunzone.proofs.ReplyFromAnswer.from.Reads as reply
use Rattle.spelunzone.proofs.sz_build.Reads as build
use Rattle.spelunzone.proofs.sz_check.Reads as check
use Rattle.spelunzone.proofs.sz_run.Reads as run
use Rattle.spelunzone.proofs.sz_values.Reads as values

pub reply_pinned : Pinned reply.Post
reply_pinned κs a r r' w w' p q = λ i. record { code = (p.code ∙ sym q.code) i; value = (p.value ∙ sym q.value) i }

pub check_pinned : Pinned check.Post
check_pinned κs a r r' w w' p q = one_reply _ _ r r' (λ x y. checked_one _ x y) p q

pub build_pinned : (κs : _) (a : _) (r r' : _) (w w' : _) → build.Post κs a r w → build.Post κs a r' w' → (r ≡ r') × (w.0.now ≡ w'.0.now)
build_pinned κs a r r' w w' p q =
    (one_reply _ _ r r' (λ x y s t. (builds_one _ _ _ x y _ _ s t).0) p q, (builds_one _ _ _ p.answer q.answer _ _ p.allowed q.allowed).1)

pub values_pinned : (κs : _) (a : _) (r r' : _) (w w' : _) → values.Post κs a r w → values.Post κs a r' w'
    → (r ≡ r') × (w.1.0.now ≡ w'.1.0.now)
values_pinned κs a r r' w w' p q =
    (one_reply _ _ r r' (λ x y s t. (valued_one _ _ x y _ _ s t).0) p q, (valued_one _ _ p.answer q.answer _ _ p.allowed q.allowed).1)

pub run_pinned : (κs : _) (a : _) (r r' : _) (w w' : _) → run.Post κs a r w → run.Post κs a r' w'
    → (r ≡ r') × (w.0.now ≡ w'.0.now) × (w.1.1.0.now ≡ w'.1.1.0.now)
run_pinned κs a r r' w w' p q =
    let same = ran_one _ _ _ p.answer q.answer _ _ _ _ p.allowed q.allowed in
    (one_reply _ _ r r' (λ x y s t. (ran_one _ _ _ x y _ _ _ _ s t).0) p q, same.1, same.2)
