-- The rule of a list of raw attributes is the rule of an empty table of rows.
use Rattle.std.proofs.Common.{◌≡◌}
use Rattle.attribute_tables_grammar.specs.Laws.{RowsAreLookedUp}
use Rattle.attribute_tables_grammar.specs.Lists.{any}
use Rattle.attribute_tables_grammar.specs.LookUps.{table_list_rule, table_row, rows_rule}
use Rattle.attribute_tables_grammar.specs.Peers.{bytes_peer}
use Rattle.attribute_tables_grammar.specs.Tables.{Table.end}

pub raw-list : RowsAreLookedUp → table_list_rule bytes_peer any end ≡ rows_rule any (table_row bytes_peer end)
raw-list law = law.named bytes_peer any end

pub ruleset raw_rules = (raw-list)
