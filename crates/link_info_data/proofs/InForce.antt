-- The rule under a name in force is that of the kind with the name.
use Rattle.std.proofs.Common.{◌≡◌, ℕ, true, List, refl, sym, ap, ◌∙◌}
use Rattle.std.specs.Prelude.{string_bytes}
use Rattle.attribute_tables_grammar.specs.LookUps.{payload_at, rule_or_raw}
use Rattle.attribute_tables_grammar.specs.Peers.{RuleOfPeers}
use Rattle.attribute_tables_grammar.specs.Laws.{NamesAreLookedUp}
use Rattle.link_info_grammar.specs.Families.{kinds, port_kinds}
use Rattle.link_info_grammar.specs.LinkInfo.{data_rule, port_data_rule}
use Rattle.link_info_grammar.specs.Laws.{UnlistedNamesHoldBytes}
use Rattle.link_info_kinds.specs.Kinds.{info_kind_text, info_kind_is_named, IsNamedBy}
use Rattle.link_info_kinds.specs.PortKinds.{info_port_kind_text, info_port_kind_is_named, IsPortNamedBy}
use Rattle.link_info_kinds.specs.declared.info_kind.InfoKind.{InfoKind}
use Rattle.link_info_kinds.specs.declared.info_kind.InfoKind.TheVariants as Kind
use Rattle.link_info_kinds.specs.declared.info_port_kind.InfoPortKind.{InfoPortKind}
use Rattle.link_info_kinds.specs.declared.info_port_kind.InfoPortKind.TheVariants as PortKind
use Rattle.link_info_data.specs.Data.{data_payload_of, data_rule_of_under}
use Rattle.link_info_data.specs.PortData.{port_data_payload_of, port_data_rule_of_under}

module _ (looked_up : NamesAreLookedUp) (unlisted : UnlistedNamesHoldBytes) (p : RuleOfPeers) where
  listed : (k : InfoKind) → data_payload_of k ≡ payload_at kinds (info_kind_text k) → data_rule p (info_kind_text k) ≡ data_rule_of_under p k
  unfolding data_rule
  listed k h = looked_up p kinds (info_kind_text k) ∙ ap (rule_or_raw p) (sym h)

  data_rule-kind : (k : InfoKind) → info_kind_is_named k ≡ true → data_rule p (info_kind_text k) ≡ data_rule_of_under p k
  unfolding data_rule
  data_rule-kind (Kind.Other s) h = unlisted.kinds p (string_bytes s) h
  data_rule-kind k h = listed k refl

  listed_port : (k : InfoPortKind) → port_data_payload_of k ≡ payload_at port_kinds (info_port_kind_text k) → port_data_rule p (info_port_kind_text k) ≡ port_data_rule_of_under p k
  unfolding port_data_rule
  listed_port k h = looked_up p port_kinds (info_port_kind_text k) ∙ ap (rule_or_raw p) (sym h)

  port_data_rule-kind : (k : InfoPortKind) → info_port_kind_is_named k ≡ true → port_data_rule p (info_port_kind_text k) ≡ port_data_rule_of_under p k
  unfolding port_data_rule
  port_data_rule-kind (PortKind.Other s) h = unlisted.port_kinds p (string_bytes s) h
  port_data_rule-kind k h = listed_port k refl

  pub names_determine_rules : (n : List ℕ) (k : InfoKind) → IsNamedBy n k → data_rule p n ≡ data_rule_of_under p k
  names_determine_rules n k h = ap (data_rule p) (sym h.0) ∙ data_rule-kind k h.1

  pub port_names_determine_rules : (n : List ℕ) (k : InfoPortKind) → IsPortNamedBy n k → port_data_rule p n ≡ port_data_rule_of_under p k
  port_names_determine_rules n k h = ap (port_data_rule p) (sym h.0) ∙ port_data_rule-kind k h.1
