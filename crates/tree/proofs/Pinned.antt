-- Every public contract determines its result: two that it allows for the same arguments are equal.
use mathlib.Core.Path.{sym, ◌∙◌}
use Rattle.model.specs.Contract.{Pinned, PinnedWhere}
use Rattle.model.proofs.Cases.{by_ltb}
use Rattle.model.proofs.Contracts.{one_value_where}
use Rattle.tree.proofs.root.Root.access.Reads as access
use Rattle.tree.proofs.root.Root.children.Reads as children
use Rattle.tree.proofs.root.Root.leaf_size.Reads as leaf_size
use Rattle.tree.proofs.root.Root.rank.Reads as rank
use Rattle.tree.proofs.root.Root.select.Reads as select
use Rattle.tree.proofs.root.Root.toward.Reads as toward

pub access_pinned : PinnedWhere access.Pre access.Post
access_pinned = one_value_where (λ κs a r w t f. f t.0)

pub leaf_size_pinned : PinnedWhere leaf_size.Pre leaf_size.Post
leaf_size_pinned = one_value_where (λ κs a r w t f. f t.0)

pub rank_pinned : PinnedWhere rank.Pre rank.Post
rank_pinned = one_value_where (λ κs a r w t f. f t.0)

pub select_pinned : PinnedWhere select.Pre select.Post
select_pinned = one_value_where (λ κs a r w t f. f t.0)

pub children_pinned : PinnedWhere children.Pre children.Post
children_pinned = one_value_where (λ κs a r w t f. f)

pub toward_pinned : Pinned toward.Post
toward_pinned κs a r r' w w' p q =
    by_ltb a.1.1.0 a.1.0.left_total (λ _ h. p.0 h ∙ sym (q.0 h)) (λ _ h. p.1 h ∙ sym (q.1 h))
