-- Every public contract determines its result: two results that it allows for the same arguments are equal.
use mathlib.Core.Path.{sym, ◌∙◌}
use Rattle.model.specs.Contract.{Pinned}
use Rattle.model.proofs.Cases.{by_test}
use Rattle.model.proofs.Contracts.{one_value}
use Rattle.bits.proofs.choice.either.Reads as either
use Rattle.bits.proofs.leaf.Leaf.insert.Reads as insert
use Rattle.bits.proofs.leaf.Leaf.remove.Reads as remove
use Rattle.bits.proofs.leaf.Leaf.join.Reads as join
use Rattle.bits.proofs.leaf.Leaf.split.Reads as split
use Rattle.bits.proofs.leaf.Leaf.count_before.Reads as count_before
use Rattle.bits.proofs.leaf.Leaf.bit_at.Reads as bit_at
use Rattle.bits.proofs.word.U32Word.ones.Reads as ones32
use Rattle.bits.proofs.word.U64Word.ones.Reads as ones64
use Rattle.bits.proofs.word.U32Word.opposite.Reads as opposite32
use Rattle.bits.proofs.word.U64Word.opposite.Reads as opposite64
use Rattle.bits.proofs.word.U32Word.wide.Reads as wide32
use Rattle.bits.proofs.word.U64Word.wide.Reads as wide64

pub insert_pinned : Pinned insert.Post
insert_pinned = one_value (λ κs a r w e. e)

pub remove_pinned : Pinned remove.Post
remove_pinned = one_value (λ κs a r w e. e)

pub join_pinned : Pinned join.Post
join_pinned = one_value (λ κs a r w e. e)

pub split_pinned : Pinned split.Post
split_pinned = one_value (λ κs a r w e. e)

pub count_before_pinned : Pinned count_before.Post
count_before_pinned = one_value (λ κs a r w e. e)

pub bit_at_pinned : Pinned bit_at.Post
bit_at_pinned = one_value (λ κs a r w e. e)

pub ones32_pinned : Pinned ones32.Post
ones32_pinned = one_value (λ κs a r w e. e)

pub ones64_pinned : Pinned ones64.Post
ones64_pinned = one_value (λ κs a r w e. e)

pub opposite32_pinned : Pinned opposite32.Post
opposite32_pinned = one_value (λ κs a r w e. e.0)

pub opposite64_pinned : Pinned opposite64.Post
opposite64_pinned = one_value (λ κs a r w e. e.0)

pub wide32_pinned : Pinned wide32.Post
wide32_pinned = one_value (λ κs a r w e. e)

pub wide64_pinned : Pinned wide64.Post
wide64_pinned = one_value (λ κs a r w e. e)

pub either_pinned : Pinned either.Post
either_pinned κs a r r' w w' p q = by_test a.0 (λ t. p.one t ∙ sym (q.one t)) (λ t. p.other t ∙ sym (q.other t))
