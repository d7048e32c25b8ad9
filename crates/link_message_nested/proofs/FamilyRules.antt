-- The rules of the lists of address families are the rules of the rows that are looked up in their tables.
use Rattle.std.proofs.Common.{◌≡◌}
use Rattle.attribute_tables_grammar.specs.Laws.{RowsAreLookedUp}
use Rattle.attribute_tables_grammar.specs.Lists.{any}
use Rattle.attribute_tables_grammar.specs.LookUps.{table_list_rule, table_row, rows_rule}
use Rattle.attribute_tables_grammar.specs.Peers.{bytes_peer}
use Rattle.link_message_grammar.specs.NestedTables.{inet, inet6, specific}

pub inet-list : RowsAreLookedUp → table_list_rule bytes_peer any inet ≡ rows_rule any (table_row bytes_peer inet)
inet-list law = law.named bytes_peer any inet

pub inet6-list : RowsAreLookedUp → table_list_rule bytes_peer any inet6 ≡ rows_rule any (table_row bytes_peer inet6)
inet6-list law = law.named bytes_peer any inet6

pub specific-list : RowsAreLookedUp → table_list_rule bytes_peer any specific ≡ rows_rule any (table_row bytes_peer specific)
specific-list law = law.named bytes_peer any specific

pub ruleset family_rules = (inet-list, inet6-list, specific-list)
