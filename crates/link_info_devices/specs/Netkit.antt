-- The data of netkit: the kind and the payload of each value.
use Rattle.std.specs.Prelude.{◌≡◌}
use Rattle.netlink_packet_core.specs.Attributes.{Attribute, proper_kind}
use Rattle.netlink_packet_core.specs.Families.{attribute}
use Rattle.netlink_packet_core.specs.Numbers.{le2, le4}
use Rattle.netlink_packet_core.specs.Booleans.{boolean_byte}
use Rattle.attribute_tables_grammar.specs.LookUps.{HasNoRow}
use Rattle.link_info_grammar.specs.Families.{netkit}
use Rattle.link_info_types.specs.NetkitTypes.{netkit_mode_number, netkit_mode_of, netkit_policy_number}
use Rattle.link_info_types.specs.NetkitTypes.{netkit_policy_of, netkit_scrub_number}
use Rattle.link_info_devices.specs.declared.netkit.InfoNetkit.{InfoNetkit}
use Rattle.link_info_devices.specs.declared.netkit.InfoNetkit.TheVariants as Netkit

-- The attribute of a value.
abbrev pub netkit_entry : InfoNetkit → Attribute
netkit_entry (Netkit.Peer b) = attribute 1 b.items
netkit_entry (Netkit.Primary t) = attribute 2 (boolean_byte t)
netkit_entry (Netkit.Policy p) = attribute 3 (le4 (netkit_policy_number p))
netkit_entry (Netkit.PeerPolicy p) = attribute 4 (le4 (netkit_policy_number p))
netkit_entry (Netkit.Mode m) = attribute 5 (le4 (netkit_mode_number m))
netkit_entry (Netkit.Scrub s) = attribute 6 (le4 (netkit_scrub_number s))
netkit_entry (Netkit.PeerScrub s) = attribute 7 (le4 (netkit_scrub_number s))
netkit_entry (Netkit.Headroom n) = attribute 8 (le2 n)
netkit_entry (Netkit.Tailroom n) = attribute 9 (le2 n)
netkit_entry (Netkit.Other a) = a

-- The value is the variant of its row: a listed policy or mode is no `Other`, and neither is an attribute whose kind
-- has a row.
abbrev pub netkit_is_row_variant : InfoNetkit → Type 0
netkit_is_row_variant (Netkit.Policy p) = p ≡ netkit_policy_of (netkit_policy_number p)
netkit_is_row_variant (Netkit.PeerPolicy p) = p ≡ netkit_policy_of (netkit_policy_number p)
netkit_is_row_variant (Netkit.Mode m) = m ≡ netkit_mode_of (netkit_mode_number m)
netkit_is_row_variant (Netkit.Other a) = HasNoRow netkit (proper_kind a.kind)
netkit_is_row_variant _ = Unit {0}
