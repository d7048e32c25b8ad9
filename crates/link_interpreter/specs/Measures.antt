-- The measures of the grammar for measures in code.
use Rattle.std.specs.Prelude.{◌≡◌, ℕ, List, length}
use Rattle.attribute_tables_grammar.specs.Lists.{Grammar, any, list_rule, without_context}
use Rattle.attribute_tables_grammar.specs.LookUps.{table_row}
use Rattle.attribute_tables_grammar.specs.Peers.{RuleOfPeers}
use Rattle.attribute_tables_grammar.specs.Rules.{Rule}
use Rattle.attribute_tables_grammar.specs.Tables.{Table, names_grammar}
use Rattle.attribute_tables_grammar.specs.Walks.{Measure}
use Rattle.link_info_grammar.specs.LinkInfo.{data_rule, port_data_rule}
use Rattle.link_tables.specs.declared.rows.Form.{Form}
use Rattle.link_tables.specs.Rows.{form_of}
use Rattle.link_interpreter.specs.declared.link_info.ListMeasure.{ListMeasure}
use Rattle.link_interpreter.specs.declared.shapes.Measured.{Measured}

-- The grammar's measure for a measure in code.
abbrev pub view : Measured → Measure
view m = record { size = m.text_len; attributes = m.attributes; fits = m.fits; empty_ports = m.empty_ports }

-- The rows of a table, found by looking up each kind.
abbrev pub rows_of : RuleOfPeers → Table → Grammar
rows_of p t = without_context (table_row p t)

-- The rule of a list of this kind under a table.
abbrev pub table_list : RuleOfPeers → Table → Form → Rule
table_list p t form = list_rule (form_of form) (rows_of p t)

-- The rows of link info.
abbrev pub info_names : RuleOfPeers → Grammar
info_names p = names_grammar (data_rule p) (port_data_rule p)

-- The rule of a list of link info.
abbrev pub info_list : RuleOfPeers → Rule
info_list p = list_rule any (info_names p)

-- The numbers are those of the list's canonical encoding.
pub record IsListMeasure (r : Rule) (bytes : List ℕ) (m : ListMeasure) : Type 0 where
  pub text_len : m.text_len ≡ length (r.canonical bytes)
  pub attributes : m.attributes ≡ r.attributes bytes
  pub fits : m.fits ≡ r.fits bytes
