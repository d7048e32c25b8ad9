-- the piece for which an allocation failed was read
use Rattle.std.proofs.Common.{◌≡◌, ◌∙◌, ◌++◌, length, take, arith, length-append}
use Rattle.std.proofs.lemmas.List.{length-take}
use Rattle.std.proofs.lemmas.Grind.{common_steps}
use Rattle.std.proofs.KnownBytes.{Consumes-trans}
use Rattle.link_capture_reader.proofs.FirstBytes.{kept_more}
use Rattle.link_capture_reader.proofs.engine.read_all_keeping_first.Goals as goal

pub returns-then-is_err : goal.returns-then-is_err
returns-then-is_err g c =
    let old = c.pieces.bytes.items in
    let piece = take c.in-Ok.count c.read.new.buffer in
    let size : length piece ≡ c.in-Ok.count = length-take c.in-Ok.count c.read.new.buffer ∙ omega (arith, c.in-Ok.ensures.within) in
    let n : c.len-then-is_err.result ≡ length old = grind (arith, common_steps) in
    let total = length-append old piece in (
      old ++ piece,
      Consumes-trans _ _ _ old piece c.pieces.invariant.consumed c.in-Ok.ensures.bytes.0,
      ((grind (arith, common_steps), omega (arith, size, total)), omega (arith, size, total, n)),
      kept_more c.pieces.first.items _ old piece c.pieces.invariant.first c.keep_first.ensures,
    )
