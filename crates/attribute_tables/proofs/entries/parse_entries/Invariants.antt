-- What was read, followed by the reading of the rest, is the reading of the whole. If the rest begins readable, so does
-- the whole.
use Rattle.std.proofs.Common.{◌≡◌, ◌≤◌, true, length}
use Rattle.std.specs.List.{All}
use Rattle.attribute_tables.specs.Beginnings.{entries_begin_readable}
use Rattle.attribute_tables.proofs.KeptEntries.{Entries}
use Rattle.attribute_tables.proofs.entries.parse_entries.Given as goal

abbrev pub invariant-loop-rest : goal.invariant-loop-rest
invariant-loop-rest g l = record {
  so_far : Entries (g.R.EntryReader.entry_row l.reader) g.R.Value.Nla.entry g.R.Value.Nla.inside_fits l.bytes l.list.items l.rest;
  is_row_variant : All (g.R.EntryReader.is_row_variant l.reader) l.list.items;
  within : length l.rest ≤ length l.bytes;
  begun : entries_begin_readable (g.R.EntryReader.entry_row l.reader) (g.R.EntryReader.may_allocate l.reader) l.rest ≡ true → entries_begin_readable (g.R.EntryReader.entry_row l.reader) (g.R.EntryReader.may_allocate l.reader) l.bytes ≡ true;
}

abbrev pub decreases-loop-rest : goal.decreases-loop-rest
decreases-loop-rest g l = length l.rest
