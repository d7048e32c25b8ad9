-- The row of an attribute's kind.
use Rattle.std.specs.Prelude.{◌≡◌, ℕ}
use Rattle.netlink_packet_core_grammar.specs.Attributes.{proper_kind}
use Rattle.attribute_tables_grammar.specs.Lists.{canonical_kind}
use Rattle.attribute_tables_grammar.specs.LookUps.{table_row}
use Rattle.attribute_tables_grammar.specs.Peers.{RuleOfPeers}
use Rattle.attribute_tables_grammar.specs.Rules.{Lawful}
use Rattle.link_tables.specs.Tables.{held_rule, table_of}
use Rattle.link_tables.specs.declared.table.Table.{Table}
use Rattle.link_interpreter.specs.declared.tables.Found.{Found}

-- This is the row of a kind, which may have flag bits, in a table.
pub record IsRowOf (p : RuleOfPeers) (table : Table) (kind : ℕ) (found : Found) : Type 0 where
  pub rule : held_rule p found.held ≡ (table_row p (table_of table.0) (proper_kind kind)).rule
  pub typed : found.is_typed ≡ (table_row p (table_of table.0) (proper_kind kind)).is_typed
  pub lawful : Lawful (table_row p (table_of table.0) (proper_kind kind)).rule
  pub written : found.kind ≡ canonical_kind (table_row p (table_of table.0) (proper_kind kind)) kind
