-- The leaf next to the left child is the first of the right one, and the other way round. Assumes nothing.
use Rattle.shrink.proofs.Joining.{left_within, left_at, right_at}
use Rattle.shrink.proofs.mending.next_size.Goals as goal

pub overflow_sub-right : goal.overflow_sub-right
overflow_sub-right c = left_within c.requires

pub first_leaf_size-requires : goal.first_leaf_size-requires
first_leaf_size-requires c = right_at c.requires

pub returns-then-left : goal.returns-then-left
returns-then-left c = λ b. rw c.if-left.true (c.first_leaf_size.ensures (right_at b))

pub last_leaf_size-requires : goal.last_leaf_size-requires
last_leaf_size-requires c = rw c.left_tree.ensures (left_at c.requires)

pub returns : goal.returns
returns c = λ b. rw c.if-left.false (c.last_leaf_size.ensures (rw c.left_tree.ensures (left_at b)))
