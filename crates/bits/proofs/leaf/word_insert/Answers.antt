-- The bits below the place stay, the new one comes in, the rest move up. Assumes nothing.
use Rattle.bits.proofs.Packed.{digit_byte, inserted_word}
use Rattle.bits.proofs.leaf.word_insert.Goals as goal

pub returns : goal.returns
returns c =
    let s = c in
    let a = s.args in
    rw (c.word_below.ensures, digit_byte a.bit) (inserted_word a.at s.requires a.word s.ranges.word.fits a.bit)
