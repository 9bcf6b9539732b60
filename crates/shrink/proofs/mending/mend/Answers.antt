-- The neighbouring leaf is measured first; where it is lean the two are joined, else it lends a mark. Assumes nothing.
use Prim.Native.Nat.{ℕ, ◌≤◌, ◌<◌}
use native.Mathlib.Omega.{arith}
use mathlib.Core.Path.{◌≡◌}
use Rattle.shrink.proofs.Outcomes.{fork_read, to_measure, to_merge, to_borrow, mend_joined, mend_lent}
use Rattle.shrink.proofs.mending.mend.Goals as goal

-- what the neighbouring leaf holds is few, or is more
few : {k n : ℕ} → k ≡ n → k ≤ 33 → n ≤ 33
few e h = omega arith

more : {k n : ℕ} → k ≡ n → 33 < k → 33 < n
more e h = omega arith

-- ---- needs

pub next_size-requires : goal.next_size-requires
next_size-requires c = let b = c.requires in to_measure b (fork_read b c.fork_at-fork.ensures)

pub merge-requires : goal.merge-requires
merge-requires c =
    let b = c.requires in
    let is = fork_read b c.fork_at-fork.ensures in
    to_merge b is (few (c.next_size.ensures (to_measure b is)) c.if-next_size-le-LEAF_LEAST.true)

pub returns-then-next_size-le-LEAF_LEAST : goal.returns-then-next_size-le-LEAF_LEAST
returns-then-next_size-le-LEAF_LEAST c = λ b.
    let is = fork_read b c.fork_at-fork.ensures in
    let lean = few (c.next_size.ensures (to_measure b is)) c.if-next_size-le-LEAF_LEAST.true in
    mend_joined b is lean (c.merge.ensures (to_merge b is lean)) c.free_children.ensures.head_after c.free_children.ensures.nodes_after

pub borrow-requires : goal.borrow-requires
borrow-requires c =
    let b = c.requires in
    let is = fork_read b c.fork_at-fork.ensures in
    to_borrow b is (more (c.next_size.ensures (to_measure b is)) c.if-next_size-le-LEAF_LEAST.false)

pub returns : goal.returns
returns c = λ b.
    let is = fork_read b c.fork_at-fork.ensures in
    let rich = more (c.next_size.ensures (to_measure b is)) c.if-next_size-le-LEAF_LEAST.false in
    mend_lent b is rich (c.borrow.ensures (to_borrow b is rich))
