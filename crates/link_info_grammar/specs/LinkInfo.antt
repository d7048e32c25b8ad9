-- Link info (if_link.h, IFLA_LINKINFO), under a rule of peers.
use Rattle.std.specs.Prelude.{ℕ, List}
use Rattle.attribute_tables_grammar.specs.Rules.{Rule}
use Rattle.attribute_tables_grammar.specs.Lists.{Context, Row, Grammar, any, list_rule}
use Rattle.attribute_tables_grammar.specs.Peers.{RuleOfPeers}
use Rattle.attribute_tables_grammar.specs.Tables.{rule_of_name, names_grammar, info_row}
use Rattle.link_info_grammar.specs.Families.{kinds, port_kinds}

-- The rule of IFLA_INFO_DATA by the name of the kind.
unfoldable pub data_rule : RuleOfPeers → List ℕ → Rule
data_rule p name = rule_of_name p kinds name

-- The rule of IFLA_INFO_SLAVE_DATA by the name of the port kind.
unfoldable pub port_data_rule : RuleOfPeers → List ℕ → Rule
port_data_rule p name = rule_of_name p port_kinds name

-- The rows of link info, with the context after each attribute.
unfoldable pub info_grammar : RuleOfPeers → Grammar
info_grammar p = names_grammar (rule_of_name p kinds) (rule_of_name p port_kinds)

-- The rule of a list of link info.
unfoldable pub info_rule : RuleOfPeers → Rule
info_rule p = list_rule any (info_grammar p)

-- The row of a kind of IFLA_INFO_* in a context.
abbrev pub link_info_row : RuleOfPeers → Context → ℕ → Row
link_info_row p c k = info_row (data_rule p) (port_data_rule p) c k
