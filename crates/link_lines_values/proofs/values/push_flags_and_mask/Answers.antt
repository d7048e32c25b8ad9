use Rattle.std.proofs.Common.{arith}
use Rattle.link_lines_values.specs.Names.{texts_of}
use Rattle.link_lines_values.proofs.Appending.{as_text}
use Rattle.link_lines_values.proofs.Readings.{mask_bytes}
use Rattle.link_lines_values.proofs.values.push_flags_and_mask.Goals as goal

pub returns-in-len8 : goal.returns-in-len8
returns-in-len8 c =
    as_text (mask_bytes (texts_of (λ b. b.now) c.args.names.now) c.args.payload.now c.from_le_bytes.result c.from_le_bytes-in-len8.result (omega arith) c.from_le_bytes.ensures c.from_le_bytes-in-len8.ensures) c.push_mask.ensures
