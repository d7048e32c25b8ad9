-- The laws, from those of the crates below.
use Rattle.attribute_tables_grammar.proofs.LookUps.{rule-rows, list-rows, list-one, named-payload}
use Rattle.attribute_tables_grammar.specs.Laws.{RowsAreLookedUp}
use Rattle.link_capture_lists.specs.RowRules.{LinksAreTables, RowsAreTheTables}
use Rattle.link_capture_lists.proofs.Built as built

rows_are_looked_up : RowsAreLookedUp
rows_are_looked_up = record { payload = rule-rows; named = list-rows; of_one = list-one }

pub rows_are_the_tables : RowsAreTheTables
rows_are_the_tables = built.tables rows_are_looked_up named-payload

pub links_are_tables : LinksAreTables
links_are_tables = built.links rows_are_looked_up

pub ruleset laws = (rows_are_the_tables, links_are_tables)
