-- Every public contract determines its result: two that it allows for the same arguments are equal.
use Rattle.model.specs.Contract.{PinnedWhere}
use Rattle.model.proofs.Contracts.{one_value_where}
use Rattle.quiet.proofs.longest.longest_quiet.Reads as longest_quiet

pub longest_quiet_pinned : PinnedWhere longest_quiet.Pre longest_quiet.Post
longest_quiet_pinned = one_value_where (λ κs a r w t f. f t)
