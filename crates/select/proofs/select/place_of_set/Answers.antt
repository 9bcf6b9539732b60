-- The loop passes bytes until the search is in one. What a step reads off the masked sums is the count of its byte. Assumes nothing.
use Rattle.select.proofs.Search.{bytes_begin, byte_reached, byte_passed, byte_held}
use Rattle.select.proofs.select.place_of_set.Goals as goal

pub loop-left-init : goal.loop-left-init
loop-left-init c = bytes_begin c.args.value c.args.k c.requires.0 c.requires.1

pub place_in_byte-requires : goal.place_in_byte-requires
place_in_byte-requires c =
    let b = c.loop-left.invariant in
    let e = c.masked_sums-sums.ensures in
    (e, (_, byte_reached b (byte_held e b) c.if-left-here.true))

pub returns : goal.returns
returns c =
    let b = c.loop-left.invariant in
    c.place_in_byte.ensures _ (byte_reached b (byte_held c.masked_sums-sums.ensures b) c.if-left-here.true)

pub loop-left-preserved : goal.loop-left-preserved
loop-left-preserved c =
    let b = c.loop-left.invariant in
    byte_passed b (byte_held c.masked_sums-sums.ensures b) c.if-left-here.false
