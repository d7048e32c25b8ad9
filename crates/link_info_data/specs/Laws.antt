-- The laws of data, as the functions of `laws` state them.
use Rattle.std.specs.Prelude.{◌≡◌, ℕ, false, List}
use Rattle.attribute_tables_grammar.specs.Peers.{RuleOfPeers}
use Rattle.link_info_grammar.specs.LinkInfo.{data_rule, port_data_rule}
use Rattle.link_info_kinds.specs.Kinds.{IsNamedBy}
use Rattle.link_info_kinds.specs.PortKinds.{IsPortNamedBy}
use Rattle.link_info_kinds.specs.declared.info_kind.InfoKind.{InfoKind}
use Rattle.link_info_kinds.specs.declared.info_port_kind.InfoPortKind.{InfoPortKind}
use Rattle.link_info_data.specs.Data.{data_rule_of_under, has_peers}
use Rattle.link_info_data.specs.PortData.{port_data_rule_of_under}

-- Data under a name have the rule of the kind with that name.
abbrev pub NamesDetermineRules : Type 0
NamesDetermineRules = (p : RuleOfPeers) (name : List ℕ) (kind : InfoKind) → IsNamedBy name kind →
    data_rule p name ≡ data_rule_of_under p kind

-- Port data under a name have the rule of the port kind with that name.
abbrev pub PortNamesDetermineRules : Type 0
PortNamesDetermineRules = (p : RuleOfPeers) (name : List ℕ) (kind : InfoPortKind) → IsPortNamedBy name kind →
    port_data_rule p name ≡ port_data_rule_of_under p kind

-- The rule of data without peers is the same under all rules of peers.
abbrev pub DataWithoutPeersHaveOneRule : Type 0
DataWithoutPeersHaveOneRule = (p q : RuleOfPeers) (kind : InfoKind) → has_peers kind ≡ false →
    data_rule_of_under p kind ≡ data_rule_of_under q kind

-- The rule of port data is the same under all rules of peers.
abbrev pub PortDataHaveOneRule : Type 0
PortDataHaveOneRule = (p q : RuleOfPeers) (name : List ℕ) → port_data_rule p name ≡ port_data_rule q name
