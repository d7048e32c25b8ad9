-- What was read, followed by the reading of the rest, is the reading of the whole. If the rest begins readable, so does
-- the whole.
use Rattle.std.proofs.Common.{◌≡◌, ◌≤◌, true, length, map}
use Rattle.std.specs.List.{All}
use Rattle.attribute_tables_grammar.specs.Lists.{no_kind_in_force}
use Rattle.attribute_tables_grammar.specs.Lists.{any, without_context}
use Rattle.attribute_tables_grammar.specs.Readings.{ReadingSoFar}
use Rattle.attribute_tables.specs.Beginnings.{begins_readable}
use Rattle.attribute_tables.specs.Written.{written_as}
use Rattle.attribute_tables.proofs.reader.parse_list.Given as goal

abbrev pub invariant-loop-rest : goal.invariant-loop-rest
invariant-loop-rest g l = record {
  so_far : ReadingSoFar any (without_context (g.R.Reader.row_of l.reader)) l.bytes (map (written_as g.R.Value.Nla.entry g.R.Value.Nla.inside_fits) l.list.items) no_kind_in_force l.rest;
  is_row_variant : All (g.R.Reader.is_row_variant l.reader) l.list.items;
  within : length l.rest ≤ length l.bytes;
  begun : begins_readable (g.R.Reader.row_of l.reader) (g.R.Reader.may_allocate l.reader) l.rest ≡ true → begins_readable (g.R.Reader.row_of l.reader) (g.R.Reader.may_allocate l.reader) l.bytes ≡ true;
}

abbrev pub decreases-loop-rest : goal.decreases-loop-rest
decreases-loop-rest g l = length l.rest
