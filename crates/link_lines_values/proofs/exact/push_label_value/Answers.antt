use Rattle.std.proofs.Common.{arith}
use Rattle.link_lines_values.proofs.Appending.{as_text}
use Rattle.link_lines_values.proofs.ExactReadings.{label_bytes}
use Rattle.link_lines_values.proofs.exact.push_label_value.Goals as goal

pub returns-in-len4 : goal.returns-in-len4
returns-in-len4 c = as_text (label_bytes c.args.part.now c.from_be_bytes.result (omega arith) c.from_be_bytes.ensures) c.push_label.ensures
