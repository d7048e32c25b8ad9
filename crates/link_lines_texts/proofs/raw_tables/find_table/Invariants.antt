use Rattle.std.proofs.Common.{◌≡◌, drop}
use Rattle.link_lines_texts.specs.RawTables.{table_in}
use Rattle.link_lines_texts.proofs.raw_tables.find_table.Given as goal

abbrev pub invariant-loop-row : goal.invariant-loop-row
invariant-loop-row l = record {
  rest : table_in (drop l.row-index l.rows) l.table ≡ table_in l.rows l.table;
}
