use Rattle.std.proofs.Common.{ap, ◌∙◌}
use Rattle.link_capture_lists.specs.ListTables.{data_rows, find}
use Rattle.link_capture_lists.proofs.tables.data_row.Goals as goal

pub returns : goal.returns
unfolding data_rows
returns c = c.find.ensures ∙ ap (find c.args.kind) c.rows_at.ensures
