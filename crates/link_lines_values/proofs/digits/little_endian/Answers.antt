use Rattle.std.proofs.Common.{arith}
use Rattle.link_lines_values.proofs.Readings.{eight_bytes}
use Rattle.link_lines_values.proofs.digits.little_endian.Goals as goal

pub returns-in-len8 : goal.returns-in-len8
returns-in-len8 c = eight_bytes c.args.bytes.now c.from_le_bytes-in-len8.result (omega arith) c.from_le_bytes-in-len8.ensures
