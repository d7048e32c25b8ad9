use Rattle.std.proofs.Common.{arith}
use Rattle.link_lines_values.proofs.ExactReadings.{last_byte, no_last_byte}
use Rattle.link_lines_values.proofs.exact.ends_with_nul.Goals as goal

pub returns-then-size-gt0 : goal.returns-then-size-gt0
returns-then-size-gt0 c = last_byte c.args.payload.now (omega arith)

pub returns-else-size-gt0 : goal.returns-else-size-gt0
returns-else-size-gt0 c = no_last_byte c.args.payload.now (omega arith)
