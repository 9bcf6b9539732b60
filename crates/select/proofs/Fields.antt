-- The masked sums count: each mask keeps the low bits of every field, so a sum of neighbouring fields has room, and one step turns
-- the counts of fields into the counts of fields twice as wide. Proved over the number of fields; a word's width only says how many
-- there are.
use Prim.Native.Nat.{ℕ, zero, suc, ◌+◌, ◌-◌, ◌*◌, ◌/◌, ◌%◌, ◌^◌, ◌≤◌, ◌<◌}
use native.Mathlib.Nat.{mod-lt, lt_of_lt_of_le, lt_of_le_of_lt, le_trans, le_of_eq, mul-zero, div-one}
use native.Mathlib.Omega.{arith}
use mathlib.Core.Path.{◌≡◌, refl, sym, ap, ◌∙◌}
use lib.Arith.{digits_div, digits_mod}
use lib.Bits.{bit_and, and_block, and_mask, and_zero_r}
use lib.Pow.{pow_pos, pow_mono, split, shr-shr, mod-mod-pow, ones_lt}
use Rattle.model.specs.Marks.{ones}
use Rattle.model.specs.Word.{odd, bits}
use Rattle.model.proofs.Counting.{ones_le, ones_append}
use Rattle.model.proofs.Words.{bits_length, bits_add, bits_mod}
use Rattle.select.specs.Fields.{field_counts}

-- the word of m fields of k bits that hold c each
unfoldable pub repeated : ℕ → ℕ → ℕ → ℕ
repeated k c zero = zero
repeated k c (suc m) = repeated k c m * 2 ^ k + c

-- twice m, so that two fields are taken at a time
unfoldable pub twice : ℕ → ℕ
twice zero = zero
twice (suc m) = suc (suc (twice m))

-- ---- a field

-- k bits have at most k set ones
pub ones_bits_le : (k w : ℕ) → ones (bits k w) ≤ k
ones_bits_le k w = le_trans (ones_le (bits k w)) (le_of_eq (bits_length k w))

-- nor have the k after them
two_small : (k w : ℕ) → (ones (bits k w) ≤ k) × (ones (bits k (w / 2 ^ k)) ≤ k)
two_small k w = (ones_bits_le k w, ones_bits_le k (w / 2 ^ k))

-- the ones of two neighbouring runs of bits
pub ones_bits_add : (j k w : ℕ) → ones (bits (j + k) w) ≡ ones (bits j w) + ones (bits k (w / 2 ^ j))
ones_bits_add j k w = rw bits_add (ones_append (bits j w) (bits k (w / 2 ^ j)))

-- a mask whose lowest field, of d + j bits, keeps j of them
and_low : (d j n mask : ℕ) → bit_and n (mask * 2 ^ (d + j) + (2 ^ j - 1)) ≡ bit_and (n / 2 ^ (d + j)) mask * 2 ^ (d + j) + n % 2 ^ j
and_low d j n mask =
    ap (λ (x : ℕ). bit_and x (mask * 2 ^ (d + j) + (2 ^ j - 1))) (sym (split n (d + j)))
    ∙ and_block (d + j) (n / 2 ^ (d + j)) mask (n % 2 ^ (d + j)) (2 ^ j - 1) (mod-lt n (pow_pos (d + j)))
    (lt_of_lt_of_le (ones_lt j) (pow_mono (omega arith)))
    ∙ ap (λ (x : ℕ). bit_and (n / 2 ^ (d + j)) mask * 2 ^ (d + j) + x) (and_mask (n % 2 ^ (d + j)) j ∙ mod-mod-pow n d j)

-- ---- pairs: what the high bits of the pairs stand for is taken off once

pair_of : (r : ℕ) → r < 4 → 2 * ones (bits 2 r) + bit_and r 2 ≡ 2 * r
unfolding ones bits odd
pair_of zero h = refl
pair_of (suc zero) h = refl
pair_of (suc (suc zero)) h = refl
pair_of (suc (suc (suc zero))) h = refl
pair_of (suc (suc (suc (suc r)))) h = absurd (omega arith)

pub pairs_counted : (m w : ℕ) → w < 4 ^ m → 2 * field_counts 2 m w + bit_and w (repeated 2 2 m) ≡ 2 * w
unfolding field_counts repeated
pairs_counted zero w h = omega (arith, and_zero_r w)
pairs_counted (suc m) w h =
    let high : 2 * field_counts 2 m (w / 4) + bit_and (w / 4) (repeated 2 2 m) ≡ 2 * (w / 4) = pairs_counted m (w / 4) (omega arith) in
    let low : 2 * ones (bits 2 w) + bit_and (w % 4) 2 ≡ 2 * (w % 4) = rw (bits_mod 2 w) at (pair_of (w % 4) (omega arith)) in
    let cut : bit_and w (repeated 2 2 m * 4 + 2) ≡ bit_and (w / 4) (repeated 2 2 m) * 4 + bit_and (w % 4) 2 =
    ap (λ (x : ℕ). bit_and x (repeated 2 2 m * 4 + 2)) (sym (split w 2))
    ∙ and_block 2 (w / 4) (repeated 2 2 m) (w % 4) 2 (omega arith) (omega arith) in
    omega arith

-- ---- half bytes: the two pairs of each, masked and added

pub halves_counted : (m w : ℕ) → bit_and (field_counts 2 (twice m) w) (repeated 4 3 m) + bit_and (field_counts 2 (twice m) w / 4) (repeated 4 3 m)
    ≡ field_counts 4 m w
unfolding field_counts repeated twice
halves_counted zero w = refl
halves_counted (suc m) w =
    let a : ℕ = field_counts 2 (twice m) (w / 16) in
    let x : ℕ = (a * 4 + ones (bits 2 (w / 4))) * 4 + ones (bits 2 w) in
    let mask : ℕ = repeated 4 3 m in
    let small = two_small 2 w in
    let high : x / 16 ≡ a = omega arith in
    let next : x / 4 / 16 ≡ a / 4 = omega arith in
    let first : x % 4 ≡ ones (bits 2 w) = omega arith in
    let quarter : x / 4 ≡ a * 4 + ones (bits 2 (w / 4)) = omega arith in
    let second : x / 4 % 4 ≡ ones (bits 2 (w / 4)) = rw quarter (digits_mod a (omega arith)) in
    let even : bit_and x (mask * 16 + 3) ≡ bit_and a mask * 16 + x % 4 = and_low 2 2 x mask ∙ ap (λ (n : ℕ). bit_and n mask * 16 + x % 4) high in
    let uneven : bit_and (x / 4) (mask * 16 + 3) ≡ bit_and (a / 4) mask * 16 + x / 4 % 4 =
    and_low 2 2 (x / 4) mask ∙ ap (λ (n : ℕ). bit_and n mask * 16 + x / 4 % 4) next in
    let rest : bit_and a mask + bit_and (a / 4) mask ≡ field_counts 4 m (w / 16) = halves_counted m (w / 16) in
    let whole : ones (bits 4 w) ≡ ones (bits 2 w) + ones (bits 2 (w / 4)) = ones_bits_add 2 2 w in
    rw (shr-shr w 2 2) (omega arith)

-- ---- bytes: the two halves of each, added and masked; a half's count is at most 4, so the sum has room in a half byte

low_half : (m w : ℕ) → field_counts 4 m w % 16 ≤ 4
unfolding field_counts
low_half zero w = omega arith
low_half (suc m) w = let o : ones (bits 4 w) ≤ 4 = ones_bits_le 4 w in omega arith

pub bytes_counted : (m w : ℕ) → bit_and (field_counts 4 (twice m) w + field_counts 4 (twice m) w / 16) (repeated 8 15 m) ≡ field_counts 8 m w
unfolding field_counts repeated twice
bytes_counted zero w = refl
bytes_counted (suc m) w =
    let a : ℕ = field_counts 4 (twice m) (w / 256) in
    let x : ℕ = (a * 16 + ones (bits 4 (w / 16))) * 16 + ones (bits 4 w) in
    let mask : ℕ = repeated 8 15 m in
    let small = two_small 4 w in
    let o₂ : a % 16 ≤ 4 = low_half (twice m) (w / 256) in
    let high : (x + x / 16) / 256 ≡ a + a / 16 = omega arith in
    let sum : x + x / 16 ≡ (a * 17 + ones (bits 4 (w / 16))) * 16 + (ones (bits 4 w) + ones (bits 4 (w / 16))) = omega arith in
    let low : (x + x / 16) % 16 ≡ ones (bits 4 w) + ones (bits 4 (w / 16)) = rw sum (digits_mod _ (omega arith)) in
    let cut : bit_and (x + x / 16) (mask * 256 + 15) ≡ bit_and (a + a / 16) mask * 256 + (x + x / 16) % 16 =
    and_low 4 4 (x + x / 16) mask ∙ ap (λ (n : ℕ). bit_and n mask * 256 + (x + x / 16) % 16) high in
    let rest : bit_and (a + a / 16) mask ≡ field_counts 8 m (w / 256) = bytes_counted m (w / 256) in
    let whole : ones (bits 8 w) ≡ ones (bits 4 w) + ones (bits 4 (w / 16)) = ones_bits_add 4 4 w in
    rw (shr-shr w 4 4) (omega arith)

-- ---- what stands in a field

-- a count of k bits fits in k bits
lt_pow : (k : ℕ) → k < 2 ^ k
lt_pow zero = omega arith
lt_pow (suc k) = let h = lt_pow k in omega arith

field_fits : (k w : ℕ) → ones (bits k w) < 2 ^ k
field_fits k w = lt_of_le_of_lt (ones_bits_le k w) (lt_pow k)

-- field j of the counts is the count of field j
pub field_of_counts : (k m w j : ℕ) → j < m → field_counts k m w / 2 ^ (k * j) % 2 ^ k ≡ ones (bits k (w / 2 ^ (k * j)))
unfolding field_counts
field_of_counts k zero w j h = absurd (omega arith)
field_of_counts k (suc m) w zero h = simp (mul-zero, div-one) (digits_mod (field_counts k m (w / 2 ^ k)) (field_fits k w))
field_of_counts k (suc m) w (suc j) h =
    let up : k * suc j ≡ k + k * j = omega arith in
    rw (up, ← shr-shr w k (k * j), ← shr-shr _ k (k * j), digits_div _ (field_fits k w)) (field_of_counts k m (w / 2 ^ k) j (omega arith))
