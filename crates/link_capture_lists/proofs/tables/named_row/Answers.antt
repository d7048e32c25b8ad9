use Rattle.std.proofs.Common.{ap, ◌∙◌, arith}
use Rattle.link_capture_lists.specs.ListTables.{find}
use Rattle.link_capture_lists.proofs.Lookups.{data_at, message_at}
use Rattle.link_capture_lists.proofs.tables.named_row.Goals as goal

pub returns-then-table : goal.returns-then-table
returns-then-table c = c.message_row.ensures ∙ ap (find c.args.kind) (message_at c.args.table.0 (omega arith))

pub returns-else-table : goal.returns-else-table
returns-else-table c = c.data_row.ensures ∙ ap (find c.args.kind) (data_at c.args.table.0 (omega arith))
