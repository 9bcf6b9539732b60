-- Told against C, each height is what the tree's is, so the balances are those of the turned tree, and the change is the true one. Assumes nothing.
use Prim.Native.Nat.{ℕ, suc, max}
use native.Mathlib.Omega.{arith}
use lib.IntN.{pos, ◌+ℤ◌, ◌-ℤ◌}
use Rattle.turn.specs.Apart.{Apart}
use Rattle.turn.specs.Forks.{Heights}
use Rattle.turn.proofs.Differences.{same, none, within, sum, minus, fits, read, held, opposite}
use Rattle.turn.proofs.turning.balances.Goals as goal

abbrev Given : goal.Start → Type 0
Given s = Heights s.args.child s.args.top

e-told : (s : goal.Start) (h : Given s) → Apart (pos 0 -ℤ held s.args.child) h.e h.c
e-told s h =
    let n = h.leans in
    opposite s.args.child h.child_is (omega arith) (omega arith)

e-held : (s : goal.Start) (h : Given s) → Apart (held (pos 0 -ℤ held s.args.child)) h.e h.c
e-held s h = let n = h.leans in read _ (e-told s h) (omega arith) (omega arith)

b-held : (c : goal.After-above-b) (h : Given c.before) → Apart (held c.above-b.result) (suc (max h.c h.e)) h.c
b-held c h =
    let n = h.leans in
    read c.above-b.result (c.above-b.ensures h.c h.e h.c (none h.c) (e-held c.before h)) (omega arith) (omega arith)

a-told : (c : goal.After-above-b) (h : Given c.before) → Apart (held c.above-b.result +ℤ held c.before.args.top) h.a h.c
a-told c h =
    let n = h.leans in
    let top = read c.before.args.top h.top_is (omega arith) (omega arith) in
    same _ h.a h.c (sum (held c.above-b.result) (held c.before.args.top) (b-held c h) top) (omega arith)

a-held : (c : goal.After-above-b) (h : Given c.before) → Apart (held (held c.above-b.result +ℤ held c.before.args.top)) h.a h.c
a-held c h = let n = h.leans in read _ (a-told c h) (omega arith) (omega arith)

module _ (c : goal.After-above-d) (h : Given c.before.before) where
  d-held : Apart (held c.above-d.result) (suc (max h.a h.c)) h.c
  d-held =
      let n = h.leans in
      read c.above-d.result (c.above-d.ensures h.a h.c h.c (a-held c.before h) (none h.c)) (omega arith) (omega arith)

  risen : Apart (held c.above-d.result -ℤ held (pos 0 -ℤ held c.before.before.args.child)) (suc (max h.a h.c)) h.e
  risen =
      let n = h.leans in
      same _ (suc (max h.a h.c)) h.e (minus (held c.above-d.result) _ d-held (e-held c.before.before h)) (omega arith)

abbrev high_after : ℕ → ℕ → ℕ → ℕ
high_after a c e = suc (max (suc (max a c)) e)

abbrev high-before : ℕ → ℕ → ℕ → ℕ
high-before a c e = suc (max a (suc (max c e)))

change : (c : goal.After-above-2) (h : Given c.before.before.before.before)
    → Apart (held c.before.above.result -ℤ held c.above-2.result) (high_after h.a h.c h.e) (high-before h.a h.c h.e)
change c h =
    let b = c.before.before.before in
    let s = b.before in
    let n = h.leans in
    let after = c.before.above.ensures (suc (max h.a h.c)) h.e h.c (d-held c.before.before h) (e-held s h) in
    let before = c.above-2.ensures h.a (suc (max h.c h.e)) h.c (a-held b h) (b-held b h) in
    same _ (high_after h.a h.c h.e) (high-before h.a h.c h.e)
    (minus (held c.before.above.result) (held c.above-2.result)
    (read c.before.above.result after (omega arith) (omega arith))
    (read c.above-2.result before (omega arith) (omega arith)))
    (omega arith)

-- ---- the needs

pub overflow_sub-e : goal.overflow_sub-e
overflow_sub-e c = let n = c.requires.leans in fits _ (e-told c c.requires) (omega arith) (omega arith)

pub above-b-requires : goal.above-b-requires
above-b-requires c = let n = c.requires.leans in (omega arith, within 99 _ (e-held c c.requires) (omega arith) (omega arith))

pub overflow_add-a : goal.overflow_add-a
overflow_add-a c = let h = c.before.requires in let n = h.leans in fits _ (a-told c h) (omega arith) (omega arith)

pub above-d-requires : goal.above-d-requires
above-d-requires c = let h = c.before.requires in let n = h.leans in (within 99 _ (a-held c h) (omega arith) (omega arith), omega arith)

pub overflow_sub-result : goal.overflow_sub-result
overflow_sub-result c = let h = c.before.before.requires in let n = h.leans in fits _ (risen c h) (omega arith) (omega arith)

pub above-requires : goal.above-requires
above-requires c =
    let s = c.before.before in
    let n = s.requires.leans in
    (within 99 _ (d-held c s.requires) (omega arith) (omega arith), within 99 _ (e-held s s.requires) (omega arith) (omega arith))

pub above-requires-2 : goal.above-requires-2
above-requires-2 c =
    let b = c.before.before in
    let h = b.before.requires in
    let n = h.leans in
    (within 99 _ (a-held b h) (omega arith) (omega arith), within 99 _ (b-held b h) (omega arith) (omega arith))

pub overflow_sub-result-2 : goal.overflow_sub-result-2
overflow_sub-result-2 c =
    let h = c.before.before.before.before.requires in
    let n = h.leans in
    fits _ (change c h) (omega arith) (omega arith)

pub returns : goal.returns
returns c = λ h.
    let n = h.leans in
    record {
      lowered = a-held c.before.before.before h;
      risen = read _ (risen c.before.before h) (omega arith) (omega arith);
      change = read _ (change c h) (omega arith) (omega arith);
    }
