-- more bytes came than 64 bits can count
use Rattle.std.proofs.Common.{arith}
use Rattle.link_capture_comparing.proofs.Counting.{too_long}
use Rattle.link_capture_comparing.proofs.pieces.read_piece.Goals as goal

pub returns-then-len-read-clause-fault : goal.returns-then-len-read-clause-fault
returns-then-len-read-clause-fault g c = λ initial s h.
    let size = c.told-buffer in
    too_long initial _ _ s c.read.new.buffer c.in-Ok.len c.args.read c.in-Ok.ensures.within (omega (arith, c.in-Ok.ensures.within, c.read.auto.buffer, c.told-buffer)) (omega (arith, c.if-len-read.true, c.ranges.read.fits)) h c.in-Ok.ensures.bytes.0
