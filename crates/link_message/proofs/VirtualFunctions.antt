-- Settings of virtual functions with equal attributes are equal.
use Rattle.netlink_packet_core.specs.Attributes.{Attribute}
use Rattle.attribute_tables_grammar.specs.LookUps.{line_at}
use Rattle.link_message_grammar.specs.NestedTables.{vf, vf_stats, vf_vlans}
use Rattle.link_message_types.specs.VfTypes.{vf_link_state_of}
use Rattle.link_message_types.specs.VlanTypes.{vlan_protocol_of}
use Rattle.link_message_nested.specs.VfInfos.{vf_info_entry, vf_info_names_row, link_vf_info_entry, link_vf_info_names_row}
use Rattle.link_message_nested.specs.VfStatistics.{vf_stats_entry, vf_stats_names_row}
use Rattle.link_message_nested.specs.VfVlans.{vf_vlan_entry, vf_vlan_names_row}
use Rattle.link_message_nested.specs.declared.vf_info.VfInfo.{VfInfo}
use Rattle.link_message_nested.specs.declared.vf_stats.VfStats.{VfStats}
use Rattle.link_message_nested.specs.declared.vf_vlan.VfVlan.{VfVlan}
use Rattle.link_message_nested.specs.contracts.vf_info.VfInfoPartialEq.TheImpl as info_equality
use Rattle.link_message_nested.specs.contracts.vf_info.VfInfoEq.TheImpl.Laws as info_laws
use Rattle.link_message_nested.specs.contracts.vf_info.LinkVfInfoPartialEq.TheImpl as link_equality
use Rattle.link_message_nested.specs.contracts.vf_stats.VfStatsPartialEq.TheImpl as stats_equality
use Rattle.link_message_nested.specs.contracts.vf_stats.VfStatsEq.TheImpl.Laws as stats_laws
use Rattle.link_message_nested.specs.contracts.vf_vlan.VfVlanPartialEq.TheImpl as vlan_equality
use Rattle.link_message_nested.specs.contracts.vf_vlan.VfVlanEq.TheImpl.Laws as vlan_laws
use Rattle.link_message.specs.Injective.{IsInjective}
use Rattle.std.proofs.Common.{[], ◌∷◌, Option, Some, arith, take, drop, refl, sym, ap, append_assoc}
use Rattle.link_message.proofs.Decoders.{Decoders, RoundTrip, RoundTripIfDecoded, Otherwise, injective_by, injective_or, value_of, round_trips, be2_of, boolean_of, le4_of, le8_of}
use Rattle.link_message.proofs.Lists.{lists_injective}

-- ---- statistics

abbrev stats_value : Attribute → Option VfStats
stats_value = value_of (line_at vf_stats) VfStats.Other (
    (0, λ p. VfStats.RxPackets (le8_of p)) ∷
    (1, λ p. VfStats.TxPackets (le8_of p)) ∷
    (2, λ p. VfStats.RxBytes (le8_of p)) ∷
    (3, λ p. VfStats.TxBytes (le8_of p)) ∷
    (4, λ p. VfStats.Broadcast (le8_of p)) ∷
    (5, λ p. VfStats.Multicast (le8_of p)) ∷
    (7, λ p. VfStats.RxDropped (le8_of p)) ∷
    (8, λ p. VfStats.TxDropped (le8_of p)) ∷ [])

stats_round_trip : RoundTrip vf_stats_entry vf_stats_names_row stats_value
stats_round_trip (VfStats.Other a) h = rw h refl
stats_round_trip v h = simp round_trips

stats_injective : IsInjective (stats_equality.ghosts).eq vf_stats_entry vf_stats_names_row
stats_injective = injective_by _ stats_laws.laws-law.refl _ _ stats_value stats_round_trip

-- ---- lists of virtual LANs

abbrev vlan_value : Attribute → Option VfVlan
vlan_value = value_of (line_at vf_vlans) VfVlan.Other ((1, λ p. VfVlan.Info (record { vf_id = le4_of (take 4 p); vlan_id = le4_of (take 4 (drop 4 p)); qos = le4_of (take 4 (drop 4 (drop 4 p))); protocol = vlan_protocol_of (be2_of (take 2 (drop 4 (drop 4 (drop 4 p))))) })) ∷ [])

vlan_round_trip : RoundTrip vf_vlan_entry vf_vlan_names_row vlan_value
vlan_round_trip (VfVlan.Other a) h = rw h refl
vlan_round_trip (VfVlan.Info r) h = simp (append_assoc, round_trips) (ap (λ t. Some (VfVlan.Info (record r { protocol = t }))) (sym h))

vlan_injective : IsInjective (vlan_equality.ghosts).eq vf_vlan_entry vf_vlan_names_row
vlan_injective = injective_by _ vlan_laws.laws-law.refl _ _ vlan_value vlan_round_trip

-- ---- settings

-- The decoder of each kind whose value owns neither bytes nor text.
abbrev decoders : Decoders VfInfo
decoders =
    (1, λ p. VfInfo.Mac (record { vf_id = le4_of (take 4 p); mac = drop 4 p })) ∷
    (2, λ p. VfInfo.Vlan (record { vf_id = le4_of (take 4 p); vlan_id = le4_of (take 4 (drop 4 p)); qos = le4_of (drop 4 (drop 4 p)) })) ∷
    (3, λ p. VfInfo.TxRate (record { vf_id = le4_of (take 4 p); rate = le4_of (drop 4 p) })) ∷
    (4, λ p. VfInfo.SpoofCheck (record { vf_id = le4_of (take 4 p); enabled = boolean_of (drop 4 p) })) ∷
    (5, λ p. VfInfo.LinkState (record { vf_id = le4_of (take 4 p); state = vf_link_state_of (le4_of (drop 4 p)) })) ∷
    (6, λ p. VfInfo.Rate (record { vf_id = le4_of (take 4 p); min_tx_rate = le4_of (take 4 (drop 4 p)); max_tx_rate = le4_of (drop 4 (drop 4 p)) })) ∷
    (7, λ p. VfInfo.RssQueryEn (record { vf_id = le4_of (take 4 p); enabled = boolean_of (drop 4 p) })) ∷
    (9, λ p. VfInfo.Trust (record { vf_id = le4_of (take 4 p); enabled = boolean_of (drop 4 p) })) ∷
    (13, λ p. VfInfo.Broadcast (record { addr = p })) ∷ []

info_round_trip : RoundTripIfDecoded vf_info_entry vf_info_names_row (value_of (line_at vf) VfInfo.Other decoders)
info_round_trip (VfInfo.Other a) h = rw h refl
info_round_trip (VfInfo.Broadcast r) h = refl
info_round_trip (VfInfo.LinkState r) h = simp round_trips (ap (λ t. Some (VfInfo.LinkState (record r { state = t }))) (sym h))
info_round_trip v h = simp round_trips

info_otherwise : Otherwise (info_equality.ghosts).eq vf_info_entry vf_info_names_row (line_at vf) decoders
info_otherwise (VfInfo.Stats x) (VfInfo.Stats y) l m i j d p q k e = lists_injective _ _ _ stats_injective _ _ p q e
info_otherwise (VfInfo.VlanList x) (VfInfo.VlanList y) l m i j d p q k e = lists_injective _ _ _ vlan_injective _ _ p q e
info_otherwise v w l m i j d p q k e = absurd (first_of (omega arith, cc))

info_injective : IsInjective (info_equality.ghosts).eq vf_info_entry vf_info_names_row
info_injective = injective_or _ info_laws.laws-law.refl _ _ (line_at vf) VfInfo.Other decoders info_round_trip info_otherwise

pub vf_infos_injective : IsInjective (link_equality.ghosts).eq link_vf_info_entry link_vf_info_names_row
vf_infos_injective v w p q e = lists_injective _ vf_info_entry vf_info_names_row info_injective v.0.items w.0.items p q (ap (λ (a : Attribute). a.payload) e)
