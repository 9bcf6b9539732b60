-- Three steps halve the field, from the byte to the bit. What each reads off the masked sums is the count of its field. Assumes nothing.
use native.Mathlib.Omega.{arith}
use mathlib.Core.Path.{◌≡◌}
use Prim.Native.Nat.{ℕ, ◌/◌, ◌^◌}
use lib.Bits.{bit_and}
use Rattle.model.specs.Marks.{ones}
use Rattle.model.specs.Word.{bits}
use Rattle.select.specs.Select.{InField, sums_of}
use Rattle.select.specs.declared.select.Reached.{Reached}
use Rattle.select.specs.declared.select.Sums.{Sums}
use Rattle.select.proofs.Search.{half_held, pair_held, held_bit, found}
use Rattle.select.proofs.select.place_in_byte.Goals as goal

-- after the first step, and after the second
module _ {w k : ℕ} {sums : Sums} (e : sums ≡ sums_of w) {r s : Reached} where
  half : ((v j : ℕ) → bit_and (sums.halves / 2 ^ r.pos) 0x0f ≡ ones (bits 4 (v / 2 ^ r.pos)) → InField v j 8 r → InField v j 4 s)
      → InField w k 8 r → InField w k 4 s
  half step f = step w k (half_held e f) f

  pair : ((v j : ℕ) → bit_and (sums.pairs / 2 ^ r.pos) 0x03 ≡ ones (bits 2 (v / 2 ^ r.pos)) → InField v j 4 r → InField v j 2 s)
      → InField w k 4 r → InField w k 2 s
  pair step f = step w k (pair_held e f) f

pub returns : goal.returns
returns c = λ k f.
    let e = c.requires.0 in
    found (c.halved-last.ensures _ k (held_bit _) (pair e c.halved-pair.ensures (half e c.halved-half.ensures f))).search

pub overflow_shr-sums-2 : goal.overflow_shr-sums-2
overflow_shr-sums-2 c = omega (arith, (half c.requires.0 c.halved-half.ensures c.requires.1.1).search.inside)

pub halved-pair-requires : goal.halved-pair-requires
halved-pair-requires c = omega (arith, (half c.requires.0 c.halved-half.ensures c.requires.1.1).search.inside)

pub overflow_shr-value : goal.overflow_shr-value
overflow_shr-value c =
    let e = c.requires.0 in
    omega (arith, (pair e c.halved-pair.ensures (half e c.halved-half.ensures c.requires.1.1)).search.inside)

pub halved-last-requires : goal.halved-last-requires
halved-last-requires c =
    let e = c.requires.0 in
    omega (arith, (pair e c.halved-pair.ensures (half e c.halved-half.ensures c.requires.1.1)).search.inside)
