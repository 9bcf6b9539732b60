-- Each pass joins one pair more; then the last pair is joined, and an odd tree to it. Assumes nothing.
use Prim.Native.Nat.{ℕ, suc, ◌+◌, ◌-◌, ◌/◌}
use native.Mathlib.Numerals.{add-one}
use native.Mathlib.Omega.{arith}
use mathlib.Core.Path.{◌≡◌, refl}
use mathlib.Core.List.{List}
use lib.ListN.{length}
use Rattle.model.specs.Tree.{Tree}
use Rattle.model.specs.Build.{round}
use Rattle.build.specs.Waiting.{Rounded, Waiting, row_above}
use Rattle.build.specs.declared.building.Item.{Item}
use Rattle.build.specs.declared.building.Row.{Row}
use Rattle.build.proofs.Pairing.{even_ends, last_joinable, no_pair, odd_ends, odd_joinable, pair_joinable, pair_more}
use Rattle.build.proofs.building.round.Goals as goal

-- what waits after the last fork of a round
ended : {w w' : List ℕ} {r : Row} {next m : ℕ} {y : Item} → length w' ≡ length w → next + (r.count - r.count / 2) ≡ m
    → ((ts : List Tree) → Waiting w next r ts → Waiting w' m (row_above r next y) (round next ts))
    → Rounded w w' r (row_above r next y) next
ended kept last waits = record { kept = kept; half = refl; done = λ ts b. rw last (waits ts b) }

pub loop-i-init : goal.loop-i-init
loop-i-init c = (refl, λ ts b. no_pair b)

pub joined-requires : goal.joined-requires
joined-requires c =
    let ready = c.requires.1 in
    let p = c.loop-i.invariant.1 ready.these ready.wait in
    rw (c.waiting.ensures, c.waiting-in-loop-i.ensures)
    (pair_joinable ready.wait.level (omega arith) p.0 p.1 p.2 (omega (arith, ready.wait.many)))

pub loop-i-preserved : goal.loop-i-preserved
loop-i-preserved c =
    let s = c.loop-i in
    let j = c.joined in
    let size : length j.new.nodes ≡ length s.nodes = j.auto.nodes in
    let forked = rw (c.waiting.ensures, c.waiting-in-loop-i.ensures) at j.ensures in (
      omega arith,
      λ ts b.
          let p = s.invariant.1 ts b in
          rw add-one (pair_more b.level (omega arith) p.0 p.1 p.2 (omega (arith, b.many)) (omega (arith, c.requires.1.enough)) forked),
    )

pub joined-requires-then-row-eq0 : goal.joined-requires-then-row-eq0
joined-requires-then-row-eq0 c =
    let ready = c.requires.1 in
    let all : c.loop-i.i ≡ c.args.row.count / 2 - 1 = omega arith in
    let p = (rw all at c.loop-i.invariant.1) ready.these ready.wait in
    rw c.waiting-right.ensures
    (last_joinable ready.wait.level (omega arith) p.0 p.1 p.2 (omega (arith, ready.wait.many)))

pub returns-then-row-eq0 : goal.returns-then-row-eq0
returns-then-row-eq0 c =
    let s = c.loop-i in
    let a = c.args in
    let all : s.i ≡ a.row.count / 2 - 1 = omega arith in
    let parted = rw all at s.invariant.1 in
    let j = c.joined-then-row-eq0 in
    let size : length j.new.nodes ≡ length s.nodes = j.auto.nodes in
    let kept = s.invariant.0 in
    let forked = rw c.waiting-right.ensures at j.ensures in
    let last : a.next + (a.row.count - a.row.count / 2) ≡ suc (a.next + (a.row.count / 2 - 1)) = omega arith in
    rw c.row_above.ensures
    (ended (omega arith) last (λ ts b.
    let p = parted ts b in
    even_ends b.level (omega arith) p.0 p.1 b p.2 (omega (arith, b.many)) (omega (arith, c.requires.1.enough)) forked))

pub joined-pair-requires : goal.joined-pair-requires
joined-pair-requires c =
    let ready = c.requires.1 in
    let all : c.loop-i.i ≡ c.args.row.count / 2 - 1 = omega arith in
    let p = (rw all at c.loop-i.invariant.1) ready.these ready.wait in
    rw (c.waiting-right.ensures, c.waiting-2.ensures)
    (pair_joinable ready.wait.level (omega arith) p.0 p.1 p.2 (omega (arith, ready.wait.many)))

pub joined-requires-2 : goal.joined-requires-2
joined-requires-2 c =
    let ready = c.requires.1 in
    let all : c.loop-i.i ≡ c.args.row.count / 2 - 1 = omega arith in
    let p = (rw all at c.loop-i.invariant.1) ready.these ready.wait in
    let forked = rw (c.waiting-right.ensures, c.waiting-2.ensures) at c.joined-pair.ensures in
    odd_joinable ready.wait.level (omega arith) p.0 p.1 p.2 (omega (arith, ready.wait.many)) (omega (arith, ready.enough)) forked

pub returns : goal.returns
returns c =
    let s = c.loop-i in
    let a = c.args in
    let all : s.i ≡ a.row.count / 2 - 1 = omega arith in
    let parted = rw all at s.invariant.1 in
    let j = c.joined-pair in
    let k = c.joined-2 in
    let size : length j.new.nodes ≡ length s.nodes = j.auto.nodes in
    let again : length k.new.nodes ≡ length j.new.nodes = k.auto.nodes in
    let kept = s.invariant.0 in
    let forked = rw (c.waiting-right.ensures, c.waiting-2.ensures) at j.ensures in
    let last : a.next + (a.row.count - a.row.count / 2) ≡ suc (suc (a.next + (a.row.count / 2 - 1))) = omega arith in
    rw c.row_above-2.ensures
    (ended (omega arith) last (λ ts b.
    let p = parted ts b in
    odd_ends b.level (omega arith) p.0 p.1 b p.2 (omega (arith, b.many)) (omega (arith, c.requires.1.enough)) forked
    (rw (add-one (a.next + (a.row.count / 2 - 1))) at k.ensures)))
