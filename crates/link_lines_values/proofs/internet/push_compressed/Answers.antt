use Rattle.std.proofs.Common.{arith}
use Rattle.link_lines_values.proofs.Appending.{as_text}
use Rattle.link_lines_values.proofs.Segments.{compressed, uncompressed}
use Rattle.link_lines_values.proofs.internet.push_compressed.Goals as goal

pub returns-then-size-lt2 : goal.returns-then-size-lt2
returns-then-size-lt2 c =
    let run = c.longest_zero_run-start in
    as_text (uncompressed c.args.segments.now run.result.0 run.result.1 run.ensures.value c.if-size-lt2.true) c.push_segments.ensures

pub returns : goal.returns
returns c =
    let run = c.longest_zero_run-start in
    as_text (compressed c.args.segments.now run.result.0 run.result.1 run.ensures.value (omega arith)) c.push_around.ensures
