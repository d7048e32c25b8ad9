-- The data of ipvlan and of ipvtap: the kind and the payload of each value.
use Rattle.std.specs.Prelude.{◌≡◌, ℕ}
use Rattle.netlink_packet_core.specs.Attributes.{Attribute, proper_kind}
use Rattle.netlink_packet_core.specs.Numbers.{le2}
use Rattle.link_info_types.specs.IpVlanTypes.{ip_vlan_mode_number, ip_vlan_mode_of, ip_vlan_flags_bits}
use Rattle.link_info_grammar.specs.Families.{ipvlan}
use Rattle.attribute_tables_grammar.specs.LookUps.{HasNoRow}
use Rattle.netlink_packet_core.specs.Families.{attribute}
use Rattle.link_info_devices.specs.declared.ipvlan.IpVlanData.{IpVlanData}
use Rattle.link_info_devices.specs.declared.ipvlan.IpVlanData.TheVariants as IpVlan

-- The number of the kind of link: 0 for ipvlan, 1 for ipvtap.
abbrev pub ipvlan_number : {n : ℕ} → IpVlanData n → ℕ
ipvlan_number {n} v = n

-- The attribute of a value.
abbrev pub ipvlan_entry : {n : ℕ} → IpVlanData n → Attribute
ipvlan_entry (IpVlan.Mode m) = attribute 1 (le2 (ip_vlan_mode_number m))
ipvlan_entry (IpVlan.Flags f) = attribute 2 (le2 (ip_vlan_flags_bits f))
ipvlan_entry (IpVlan.Other a) = a

-- The value is the variant of its row: a listed mode is no `Other`, and neither is an attribute whose kind has a row.
abbrev pub ipvlan_is_row_variant : {n : ℕ} → IpVlanData n → Type 0
ipvlan_is_row_variant (IpVlan.Mode m) = m ≡ ip_vlan_mode_of (ip_vlan_mode_number m)
ipvlan_is_row_variant (IpVlan.Other a) = HasNoRow ipvlan (proper_kind a.kind)
ipvlan_is_row_variant _ = Unit {0}
