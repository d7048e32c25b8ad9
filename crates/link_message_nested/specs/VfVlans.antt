-- VLANs of virtual functions: the kind and the payload of each value.
use Rattle.std.specs.Prelude.{◌≡◌}
use Rattle.netlink_packet_core.specs.Attributes.{Attribute, proper_kind}
use Rattle.netlink_packet_core.specs.Families.{attribute}
use Rattle.attribute_tables_grammar.specs.LookUps.{HasNoRow}
use Rattle.link_message_grammar.specs.NestedTables.{vf_vlans}
use Rattle.link_message_types.specs.VlanTypes.{vlan_protocol_number, vlan_protocol_of}
use Rattle.link_message_records.specs.VfRecords.{vf_vlan_info_bytes}
use Rattle.link_message_nested.specs.declared.vf_vlan.VfVlan.{VfVlan}

-- The kind and the payload of a value.
abbrev pub vf_vlan_entry : VfVlan → Attribute
vf_vlan_entry (VfVlan.Info r) = attribute 1 (vf_vlan_info_bytes r)
vf_vlan_entry (VfVlan.Other a) = a

-- The value is the variant that its row names: a kind with a row isn't kept as `Other`, nor a named number as `Other`.
abbrev pub vf_vlan_names_row : VfVlan → Type 0
vf_vlan_names_row (VfVlan.Info r) = r.protocol ≡ vlan_protocol_of (vlan_protocol_number r.protocol)
vf_vlan_names_row (VfVlan.Other a) = HasNoRow vf_vlans (proper_kind a.kind)
