-- Two numbers are free, and the steps are those of the law, in its order. Assumes nothing.
use mathlib.Core.Path.{refl}
use Rattle.grow.proofs.Splitting.{split_done, split_next, split_two}
use Rattle.grow.proofs.inserting.split.Goals as goal

pub next_free-second-requires : goal.next_free-second-requires
next_free-second-requires c = let b = c.requires in ((split_two b).second, (split_two b).first_free)

pub next_free-requires : goal.next_free-requires
next_free-requires c = split_next c.requires c.next_free-second.ensures

pub returns : goal.returns
returns c = λ b.
    split_done b c.next_free-second.ensures c.next_free.ensures c.split.ensures
    c.set_node.ensures c.set_node-2.ensures refl refl refl
    c.count_before.ensures c.stored.ensures c.set_node-3.ensures
