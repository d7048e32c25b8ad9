-- The laws of the tables of link info, as the functions of `laws` state them.
use Rattle.std.specs.Prelude.{◌≡◌, ℕ, true, List}
use Rattle.attribute_tables_grammar.specs.Rules.{Lawful, raw_rule}
use Rattle.attribute_tables_grammar.specs.Lists.{ListForm, any, LawfulGrammar}
use Rattle.attribute_tables_grammar.specs.Peers.{RuleOfPeers, LawfulPeer}
use Rattle.attribute_tables_grammar.specs.Tables.{Payload.link_info, payload_bounded, rising, rule_of_name}
use Rattle.attribute_tables_grammar.specs.LookUps.{link_info_rule}
use Rattle.link_info_grammar.specs.Families.{kinds, port_kinds, kind_names, port_kind_names}
use Rattle.link_info_grammar.specs.KindNames.{is_unlisted, are_listed}
use Rattle.link_info_grammar.specs.LinkInfo.{info_grammar, info_rule}

-- No canonical attribute is more than 77 times as long as the attribute, kinds ascend, and no name occurs twice.
abbrev pub InfoTablesAreBoundedAndAscend : Type 0
InfoTablesAreBoundedAndAscend = (form : ListForm) →
    (payload_bounded (link_info form kinds port_kinds) ≡ true) × (rising (link_info form kinds port_kinds) ≡ true)

-- Link info is lawful under every lawful rule of peers.
abbrev pub InfoIsLawful : Type 0
InfoIsLawful = (p : RuleOfPeers) → LawfulPeer p → Lawful (info_rule p)

-- The rows of link info are lawful under every lawful rule of peers.
abbrev pub InfoGrammarIsLawful : Type 0
InfoGrammarIsLawful = (p : RuleOfPeers) → LawfulPeer p → LawfulGrammar (info_grammar p)

-- Each kind and each port kind that has a table has a listed name.
abbrev pub TablesAreListed : Type 0
TablesAreListed = (are_listed kinds kind_names ≡ true) × (are_listed port_kinds port_kind_names ≡ true)

-- Link info of the list kind `any` has the rule `info_rule`.
abbrev pub InfoOfAnyFormIsInfoRule : Type 0
InfoOfAnyFormIsInfoRule = (p : RuleOfPeers) → link_info_rule p any kinds port_kinds ≡ info_rule p

-- Data under a name that isn't listed are raw bytes.
pub record UnlistedNamesHoldBytes : Type 0 where
  pub kinds : (p : RuleOfPeers) (n : List ℕ) → is_unlisted kind_names n ≡ true → rule_of_name p kinds n ≡ raw_rule
  pub port_kinds : (p : RuleOfPeers) (n : List ℕ) → is_unlisted port_kind_names n ≡ true → rule_of_name p port_kinds n ≡ raw_rule
