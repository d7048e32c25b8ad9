use Rattle.link_lines_raw.specs.Rows.{raw_of}
use Rattle.link_lines_raw.specs.Tables.{raw_rows_of}
use Rattle.link_lines_raw.proofs.RowsInCode.{at_kind}
use Rattle.link_lines_raw.proofs.raw.listed_row.Goals as goal

pub returns : goal.returns
returns c =
    at_kind (λ b. b.now) (raw_of (λ b. b.now)) c.args.kind c.look_up.result c.raw_rows.result.now (raw_rows_of c.args.table.0)
    c.look_up.ensures c.raw_rows.ensures.rows
