-- The laws of link info, as the functions of `laws` state them.
use Rattle.std.specs.Prelude.{◌≡◌, map}
use Rattle.link_info_grammar.specs.Families.{kind_names, port_kind_names}
use Rattle.attribute_tables_grammar.specs.Rules.{Lawful}
use Rattle.link_info_kinds.specs.Kinds.{info_kind_text, listed_kinds}
use Rattle.link_info_kinds.specs.PortKinds.{info_port_kind_text, listed_port_kinds}
use Rattle.attribute_tables_grammar.specs.Peers.{RuleOfPeers, LawfulPeer}
use Rattle.link_info_grammar.specs.LinkInfo.{info_rule}

-- Link info is lawful under every lawful rule of peers.
abbrev pub LinkInfoIsLawful : Type 0
LinkInfoIsLawful = (p : RuleOfPeers) → LawfulPeer p → Lawful (info_rule p)

-- Each listed name is that of one variant, in the order of the names.
abbrev pub KindsAreTheNames : Type 0
KindsAreTheNames = (map info_kind_text listed_kinds ≡ kind_names) ×
    (map info_port_kind_text listed_port_kinds ≡ port_kind_names)
