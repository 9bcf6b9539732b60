-- Each masked sum is the count of its fields, by the laws of Fields. Assumes nothing.
use mathlib.Core.Path.{◌≡◌}
use Prim.Native.Nat.{ℕ, ◌+◌, ◌-◌, ◌*◌, ◌/◌, ◌^◌, ◌≤◌, ◌<◌}
use native.Mathlib.Omega.{arith}
use lib.Bits.{bit_and, and_le_r}
use Rattle.select.specs.Fields.{field_counts}
use Rattle.select.specs.Select.{sums_of}
use Rattle.select.proofs.Fields.{repeated, twice, pairs_counted, halves_counted, bytes_counted}
use Rattle.select.proofs.select.masked_sums.Goals as goal

-- the program's three sums
abbrev pairs-sum : ℕ → ℕ
pairs-sum w = w - bit_and w 0xaaaa_aaaa_aaaa_aaaa / 2

abbrev halves-sum : ℕ → ℕ
halves-sum x = bit_and x 0x3333_3333_3333_3333 + bit_and (x / 4) 0x3333_3333_3333_3333

-- each mask is the one that Fields names, by computation
pairs-are : (w : ℕ) → w < 2 ^ 64 → pairs-sum w ≡ field_counts 2 32 w
unfolding repeated
pairs-are w h = omega (arith, pairs_counted 32 w h)

halves_are : (w : ℕ) → halves-sum (field_counts 2 32 w) ≡ field_counts 4 16 w
unfolding repeated twice
halves_are w = halves_counted 16 w

bytes-are : (w : ℕ) → bit_and (field_counts 4 16 w + field_counts 4 16 w / 16) 0x0f0f_0f0f_0f0f_0f0f ≡ field_counts 8 8 w
unfolding repeated twice
bytes-are w = bytes_counted 8 w

halves_small : (x : ℕ) → halves-sum x ≤ 2 * 0x3333_3333_3333_3333
halves_small x = omega (arith, and_le_r x 0x3333_3333_3333_3333, and_le_r (x / 4) 0x3333_3333_3333_3333)

pub returns : goal.returns
unfolding sums_of
returns c =
    let w : ℕ = c.args.value in
    rw (pairs-are w c.ranges.value.fits, halves_are w, bytes-are w)
