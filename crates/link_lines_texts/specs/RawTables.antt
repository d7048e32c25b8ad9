-- The tables of raw attributes that occur in lists of normal texts.
use Rattle.std.specs.Prelude.{◌==◌, cond, List, [], ◌∷◌}
use Rattle.link_lines_raw.specs.declared.raw_tables.RawTable.{RawTable}
use Rattle.link_lines_raw.specs.declared.raw_tables.TheConstants.{UNNAMED}
use Rattle.link_lines_texts.specs.declared.raw_tables.TheConstants.{RAW_TABLES}
use Rattle.link_tables.specs.declared.table.Table.{Table}

-- The table of raw attributes beside a table in some rows; one without names if no row has it.
abbrev pub table_in : List (Table × RawTable) → Table → RawTable
table_in [] table = UNNAMED
table_in (row ∷ rows) table = cond (row.0.0 == table.0) row.1 (table_in rows table)

-- The table of the raw attributes in lists of a table.
unfoldable pub raw_table : Table → RawTable
raw_table table = table_in RAW_TABLES.now table
