-- The IPv6 state and settings of a link: the kind and the payload of each value.
use Rattle.std.specs.Prelude.{◌≡◌, [], ◌∷◌}
use Rattle.std.specs.Net.Addr.{ipv6_octets}
use Rattle.netlink_packet_core.specs.Attributes.{Attribute, proper_kind}
use Rattle.netlink_packet_core.specs.Families.{attribute}
use Rattle.netlink_packet_core.specs.Numbers.{le4}
use Rattle.attribute_tables_grammar.specs.LookUps.{HasNoRow}
use Rattle.link_message_grammar.specs.NestedTables.{inet6}
use Rattle.link_message_records.specs.CacheInfos.{inet_6_cache_info_bytes}
use Rattle.link_message_records.specs.ValueRecords.{i32_values_bytes, u64_values_bytes}
use Rattle.link_message_types.specs.Inet6Types.{inet_6_iface_flags_bits, in_6_addr_gen_mode_number}
use Rattle.link_message_types.specs.Inet6Types.{in_6_addr_gen_mode_of}
use Rattle.link_message_nested.specs.declared.inet6.AfSpecInet6.{AfSpecInet6}

-- The kind and the payload of a value.
abbrev pub af_spec_inet_6_entry : AfSpecInet6 → Attribute
af_spec_inet_6_entry (AfSpecInet6.Flags f) = attribute 1 (le4 (inet_6_iface_flags_bits f))
af_spec_inet_6_entry (AfSpecInet6.CacheInfo r) = attribute 5 (inet_6_cache_info_bytes r)
af_spec_inet_6_entry (AfSpecInet6.DevConf r) = attribute 2 (i32_values_bytes r)
af_spec_inet_6_entry (AfSpecInet6.Stats r) = attribute 3 (u64_values_bytes r)
af_spec_inet_6_entry (AfSpecInet6.Icmp6Stats r) = attribute 6 (u64_values_bytes r)
af_spec_inet_6_entry (AfSpecInet6.Token a) = attribute 7 (ipv6_octets a)
af_spec_inet_6_entry (AfSpecInet6.AddrGenMode m) = attribute 8 (in_6_addr_gen_mode_number m ∷ [])
af_spec_inet_6_entry (AfSpecInet6.RaMtu n) = attribute 9 (le4 n)
af_spec_inet_6_entry (AfSpecInet6.Other a) = a

-- The value is the variant that its row names: a kind with a row isn't kept as `Other`, nor a named number as `Other`.
abbrev pub af_spec_inet_6_names_row : AfSpecInet6 → Type 0
af_spec_inet_6_names_row (AfSpecInet6.AddrGenMode m) = m ≡ in_6_addr_gen_mode_of (in_6_addr_gen_mode_number m)
af_spec_inet_6_names_row (AfSpecInet6.Other a) = HasNoRow inet6 (proper_kind a.kind)
af_spec_inet_6_names_row _ = Unit {0}
