-- The rules of the lists of virtual functions are the rules of the rows that are looked up in their tables.
use Rattle.std.proofs.Common.{◌≡◌, false, Some}
use Rattle.attribute_tables_grammar.specs.Laws.{RowsAreLookedUp}
use Rattle.attribute_tables_grammar.specs.Lists.{any, of_kind_one, ports}
use Rattle.attribute_tables_grammar.specs.LookUps.{table_list_rule, table_row, row_of_line, rows_rule, only_kind_one}
use Rattle.attribute_tables_grammar.specs.Peers.{bytes_peer}
use Rattle.attribute_tables_grammar.specs.Rows.{raw_list}
use Rattle.attribute_tables_grammar.specs.Tables.{Payload.list}
use Rattle.link_message_grammar.specs.NestedTables.{vf, vf_vlans, vf_infos, vf_ports}

pub vf-list : RowsAreLookedUp → table_list_rule bytes_peer any vf ≡ rows_rule any (table_row bytes_peer vf)
vf-list law = law.named bytes_peer any vf

pub vf_vlans-list : RowsAreLookedUp → table_list_rule bytes_peer any vf_vlans ≡ rows_rule any (table_row bytes_peer vf_vlans)
vf_vlans-list law = law.named bytes_peer any vf_vlans

pub vf_infos-list : RowsAreLookedUp → table_list_rule bytes_peer of_kind_one vf_infos ≡ rows_rule of_kind_one (only_kind_one (row_of_line bytes_peer (Some (record { is_nested = false; payload = list any vf }))))
vf_infos-list law = law.of_one bytes_peer of_kind_one false (list any vf)

pub vf_ports-list : RowsAreLookedUp → table_list_rule bytes_peer ports vf_ports ≡ rows_rule ports (only_kind_one (row_of_line bytes_peer (Some (record { is_nested = false; payload = raw_list }))))
vf_ports-list law = law.of_one bytes_peer ports false raw_list

pub ruleset vf_rules = (vf-list, vf_vlans-list, vf_infos-list, vf_ports-list)
