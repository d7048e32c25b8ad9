use Rattle.std.proofs.Common.{sym, ap, ◌∙◌}
use Rattle.std.specs.Prelude.{option_map}
use Rattle.link_lines_raw.specs.Rows.{raw_of}
use Rattle.link_lines_raw.specs.Tables.{raw_rows_of}
use Rattle.link_lines_raw.proofs.NameSearch.{found, in_rows, none_found}
use Rattle.link_lines_raw.proofs.names.find_name_below.Goals as goal

-- What the search in a table's rows in code found, in terms of the rows.
pub returns-in-Some : goal.returns-in-Some
returns-in-Some c =
    let here = in_rows (λ b. b.now) (raw_of (λ b. b.now)) c.args.word.now (raw_rows_of c.loop-table.table) c.raw_rows.result.now c.find_name_in.result c.raw_rows.ensures.rows c.find_name_in.ensures in
    sym (found raw_rows_of c.args.word.now c.in-Some.name.now c.loop-table.table c.args.count c.loop-table-test.true c.loop-table.invariant.before (sym here ∙ ap (option_map (λ b. b.now)) c.in-Some.is))

pub loop-table-preserved : goal.loop-table-preserved
loop-table-preserved c =
    let here = in_rows (λ b. b.now) (raw_of (λ b. b.now)) c.args.word.now (raw_rows_of c.loop-table.table) c.raw_rows.result.now c.find_name_in.result c.raw_rows.ensures.rows c.find_name_in.ensures in
    record { before = none_found raw_rows_of c.args.word.now c.loop-table.table c.loop-table.invariant.before (sym here ∙ ap (option_map (λ b. b.now)) c.in_default.is) }
