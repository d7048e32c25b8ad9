-- Settings of virtual functions: the kind and the payload of each value.
use Rattle.std.specs.Prelude.{◌≡◌, ◌&&◌, ℕ, Bool, true, false, List, Some}
use Rattle.std.specs.List.{All}
use Rattle.netlink_packet_core.specs.Attributes.{Attribute, proper_kind}
use Rattle.netlink_packet_core.specs.AttributeViews.{viewed_attribute, viewed_payload}
use Rattle.netlink_packet_core.specs.Families.{attribute, family_row}
use Rattle.netlink_packet_core.specs.Lists.{text_by, all_fit_by}
use Rattle.attribute_tables_grammar.specs.Lists.{Row, any, is_of_kind_one, canonical_form}
use Rattle.attribute_tables_grammar.specs.LookUps.{HasNoRow, row_of_line}
use Rattle.attribute_tables_grammar.specs.Peers.{bytes_peer}
use Rattle.attribute_tables_grammar.specs.Tables.{Payload.list}
use Rattle.attribute_tables.specs.Beginnings.{begins_readable, entries_begin_readable, table_may_allocate}
use Rattle.link_message_grammar.specs.NestedTables.{vf}
use Rattle.link_message_types.specs.VfTypes.{vf_link_state_number, vf_link_state_of}
use Rattle.link_message_records.specs.VfRecords.{vf_info_mac_bytes, vf_info_vlan_bytes, vf_info_tx_rate_bytes}
use Rattle.link_message_records.specs.VfRecords.{vf_info_link_state_bytes, vf_info_rate_bytes, vf_info_broadcast_bytes}
use Rattle.link_message_records.specs.VfSettings.{vf_info_setting_bytes}
use Rattle.link_message_nested.specs.VfStatistics.{vf_stats_entry, vf_stats_names_row}
use Rattle.link_message_nested.specs.VfVlans.{vf_vlan_entry, vf_vlan_names_row}
use Rattle.link_message_nested.specs.declared.vf_info.VfInfo.{VfInfo}
use Rattle.link_message_nested.specs.declared.vf_info.LinkVfInfo.{LinkVfInfo}

-- The kind and the payload of a setting.
abbrev pub vf_info_entry : VfInfo → Attribute
vf_info_entry (VfInfo.Mac r) = attribute 1 (vf_info_mac_bytes r)
vf_info_entry (VfInfo.Vlan r) = attribute 2 (vf_info_vlan_bytes r)
vf_info_entry (VfInfo.TxRate r) = attribute 3 (vf_info_tx_rate_bytes r)
vf_info_entry (VfInfo.SpoofCheck r) = attribute 4 (vf_info_setting_bytes r)
vf_info_entry (VfInfo.LinkState r) = attribute 5 (vf_info_link_state_bytes r)
vf_info_entry (VfInfo.Rate r) = attribute 6 (vf_info_rate_bytes r)
vf_info_entry (VfInfo.RssQueryEn r) = attribute 7 (vf_info_setting_bytes r)
vf_info_entry (VfInfo.Stats vs) = attribute 8 (text_by vf_stats_entry vs.items)
vf_info_entry (VfInfo.Trust r) = attribute 9 (vf_info_setting_bytes r)
vf_info_entry (VfInfo.VlanList vs) = attribute 12 (text_by vf_vlan_entry vs.items)
vf_info_entry (VfInfo.Broadcast r) = attribute 13 (vf_info_broadcast_bytes r)
vf_info_entry (VfInfo.Other a) = a

-- Each length inside a value fits the 2 bytes of its header.
abbrev pub vf_info_fits : VfInfo → Bool
vf_info_fits (VfInfo.Stats vs) = all_fit_by vf_stats_entry (λ _. true) vs.items
vf_info_fits (VfInfo.VlanList vs) = all_fit_by vf_vlan_entry (λ _. true) vs.items
vf_info_fits _ = true

-- The value is the variant that its row names: a kind with a row isn't kept as `Other`, nor a named number as `Other`.
abbrev pub vf_info_names_row : VfInfo → Type 0
vf_info_names_row (VfInfo.LinkState r) = r.state ≡ vf_link_state_of (vf_link_state_number r.state)
vf_info_names_row (VfInfo.Stats vs) = All vf_stats_names_row vs.items
vf_info_names_row (VfInfo.VlanList vs) = All vf_vlan_names_row vs.items
vf_info_names_row (VfInfo.Other a) = HasNoRow vf (proper_kind a.kind)
vf_info_names_row _ = Unit {0}

-- The kind and the payload of a virtual function.
abbrev pub link_vf_info_entry : LinkVfInfo → Attribute
link_vf_info_entry v = attribute 1 (text_by vf_info_entry v.0.items)

-- Each length inside a virtual function fits the 2 bytes of its header.
abbrev pub link_vf_info_fits : LinkVfInfo → Bool
link_vf_info_fits v = all_fit_by vf_info_entry vf_info_fits v.0.items

-- Each setting of a virtual function is the variant that its row names.
abbrev pub link_vf_info_names_row : LinkVfInfo → Type 0
link_vf_info_names_row v = All vf_info_names_row v.0.items

-- ---- one virtual function in the list

-- The row of a virtual function in the list: a list of settings.
abbrev pub vf_info_row : Row
vf_info_row = row_of_line bytes_peer (Some (record { is_nested = false; payload = list any vf }))

-- The bytes begin with a virtual function: an attribute of kind 1 whose settings are accepted.
abbrev pub is_vf_info : List ℕ → Bool
is_vf_info b = is_of_kind_one (viewed_attribute b) && vf_info_row.rule.accepted (viewed_payload b)

-- The value is read from the attribute at the start of the bytes.
abbrev pub IsVfInfoOf : List ℕ → LinkVfInfo → Type 0
IsVfInfoOf b v =
    (link_vf_info_entry v ≡ canonical_form vf_info_row (viewed_attribute b))
    × (link_vf_info_fits v ≡ vf_info_row.rule.fits (viewed_payload b))
    × link_vf_info_names_row v

-- ---- when an allocation may fail

-- The settings of one virtual function begin with an accepted one, so that an allocation may fail.
abbrev pub vf_info_begins_readable : List ℕ → Bool
vf_info_begins_readable p = begins_readable (family_row vf) (table_may_allocate vf) p

-- The first virtual function of a list is accepted, or its settings begin with an accepted one.
unfoldable pub vf_infos_begin_readable : List ℕ → Bool
vf_infos_begin_readable b = entries_begin_readable vf_info_row vf_info_begins_readable b
