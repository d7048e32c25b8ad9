-- The rule of data without peers is the same under all rules of peers.
use Rattle.std.proofs.Common.{◌≡◌, Bool, true, false, cond, List, ℕ, Option, Some, None, refl, sym, ◌∙◌}
use Rattle.std.specs.Prelude.{bytes_eq}
use Rattle.std.proofs.lemmas.Bool.{and_parts}
use Rattle.attribute_tables_grammar.specs.Laws.{NamesAreLookedUp, RulesWithoutPeersAreOne}
use Rattle.attribute_tables_grammar.specs.LookUps.{payload_at, rule_or_raw}
use Rattle.attribute_tables_grammar.specs.Peers.{RuleOfPeers}
use Rattle.attribute_tables_grammar.specs.Tables.{Payload, Names, Names.others, Names.name, holds_no_peers, names_hold_no_peers}
use Rattle.link_info_grammar.specs.Families.{port_kinds}
use Rattle.link_info_grammar.specs.LinkInfo.{port_data_rule}
use Rattle.link_info_kinds.specs.declared.info_kind.InfoKind.{InfoKind}
use Rattle.link_info_kinds.specs.declared.info_kind.InfoKind.TheVariants as Kind
use Rattle.link_info_data.specs.Data.{data_payload_of, has_peers}
use Rattle.link_info_data.specs.Laws.{DataWithoutPeersHaveOneRule, PortDataHaveOneRule}

-- for a payload, or raw bytes
abbrev none_held : Option Payload → Bool
none_held None = true
none_held (Some s) = holds_no_peers s

of_kind : (k : InfoKind) → has_peers k ≡ false → none_held (data_payload_of k) ≡ true
of_kind Kind.Netkit h = absurd cc
of_kind Kind.Veth h = absurd cc
of_kind Kind.Vxcan h = absurd cc
of_kind _ h = refl

-- for a kind that is none of those
pub no_peers : (k : InfoKind) → (k ≡ Kind.Netkit → ⊥) → (k ≡ Kind.Veth → ⊥) → (k ≡ Kind.Vxcan → ⊥) → has_peers k ≡ false
no_peers Kind.Netkit n v x = absurd (n refl)
no_peers Kind.Veth n v x = absurd (v refl)
no_peers Kind.Vxcan n v x = absurd (x refl)
no_peers _ n v x = refl

picked : (b : Bool) (s : Payload) (o : Option Payload) → holds_no_peers s ≡ true → none_held o ≡ true → none_held (cond b (Some s) o) ≡ true
picked true s o h r = h
picked false s o h r = r

of_name : (ns : Names) → names_hold_no_peers ns ≡ true → (n : List ℕ) → none_held (payload_at ns n) ≡ true
of_name others h n = refl
of_name (name m s ns) h n =
    let parts = and_parts (holds_no_peers s) (names_hold_no_peers ns) h in
    picked (bytes_eq n m) s (payload_at ns n) parts.0 (of_name ns parts.1 n)

module _ (one : RulesWithoutPeersAreOne) where
  one_rule : (p q : RuleOfPeers) (o : Option Payload) → none_held o ≡ true → rule_or_raw p o ≡ rule_or_raw q o
  one_rule p q None h = refl
  one_rule p q (Some s) h = one.payloads p q s h

  pub data_without_peers : DataWithoutPeersHaveOneRule
  data_without_peers p q k h = one_rule p q (data_payload_of k) (of_kind k h)

  pub port_data : NamesAreLookedUp → PortDataHaveOneRule
  unfolding port_data_rule
  port_data names p q n = names p port_kinds n ∙ one_rule p q (payload_at port_kinds n) (of_name port_kinds refl n) ∙ sym (names q port_kinds n)
