use Rattle.std.proofs.Common.{◌≡◌, None}
use Rattle.link_lines_raw.specs.NameSearch.{named_below}
use Rattle.link_lines_raw.specs.Tables.{raw_rows_of}
use Rattle.link_lines_raw.proofs.names.find_name_below.Given as goal

-- The word isn't a name in the tables before this one.
abbrev pub invariant-loop-table : goal.invariant-loop-table
invariant-loop-table l = record {
  before : named_below raw_rows_of l.word l.table ≡ None;
}
