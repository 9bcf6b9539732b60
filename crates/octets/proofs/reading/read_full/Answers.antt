-- What a read gives goes on where the bytes before it ended. Assumes nothing.
use Rattle.std.proofs.Common.{arith}
use Rattle.std.proofs.KnownBytes.{Consumes-trans}
use Rattle.octets.proofs.Grown.{first_grown}
use Rattle.octets.proofs.reading.read_full.Goals as goal

pub loop-done-preserved : goal.loop-done-preserved
loop-done-preserved g c =
    let l = c.loop-done in
    let more = c.in_ok-more.ensures in (
      omega (arith, more.bound.0, c.read.auto.buf),
      rw (first_grown l.done _ c.in_ok-more.more l.bytes c.read.new.buf l.invariant.0 more.bound.0)
          (Consumes-trans _ _ _ _ _ l.invariant.1 more.bytes.0),
    )
