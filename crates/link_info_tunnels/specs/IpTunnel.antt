-- The data of ipip, ip6tnl and sit: the kind and the payload of each value, and the flags by the kind of the link.
use Rattle.std.specs.Prelude.{◌≡◌, ◌∷◌, [], ℕ, Bool, List}
use Rattle.std.specs.Net.Addr.{ipv4_octets, ipv6_octets}
use Rattle.netlink_packet_core.specs.Addresses.{ip_octets, HasAddressLength}
use Rattle.netlink_packet_core.specs.Attributes.{Attribute, proper_kind}
use Rattle.netlink_packet_core.specs.Families.{attribute, family_row}
use Rattle.netlink_packet_core.specs.Numbers.{be2, be4, le2, le4}
use Rattle.netlink_packet_core.specs.Booleans.{boolean_byte}
use Rattle.attribute_tables_grammar.specs.Lists.{any}
use Rattle.attribute_tables_grammar.specs.LookUps.{HasNoRow, table_list_rule}
use Rattle.attribute_tables_grammar.specs.Peers.{bytes_peer}
use Rattle.attribute_tables_grammar.specs.Rules.{Rule}
use Rattle.attribute_tables_grammar.specs.Shapes.{Shape, exact, never}
use Rattle.attribute_tables_grammar.specs.Tables.{Table}
use Rattle.attribute_tables.specs.Beginnings.{begins_accepted}
use Rattle.link_info_grammar.specs.Families.{ip_tunnel}
use Rattle.link_info_kinds.specs.declared.info_kind.InfoKind.{InfoKind}
use Rattle.link_info_kinds.specs.declared.info_kind.InfoKind.TheVariants as Kind
use Rattle.link_info_types.specs.IpProtocols.{ip_protocol_number, ip_protocol_of}
use Rattle.link_info_types.specs.IpTunnelTypes.{ip6_tunnel_flags_bits, tunnel_encap_flags_bits}
use Rattle.link_info_types.specs.IpTunnelTypes.{tunnel_encap_type_number, tunnel_encap_type_of}
use Rattle.link_info_tunnels.specs.declared.iptunnel.InfoIpTunnel.{InfoIpTunnel}
use Rattle.link_info_tunnels.specs.declared.iptunnel.InfoIpTunnel.TheVariants.{Link, Local, Remote, Ttl, Tos}
use Rattle.link_info_tunnels.specs.declared.iptunnel.InfoIpTunnel.TheVariants.{EncapLimit, FlowInfo, Ipv4Flags}
use Rattle.link_info_tunnels.specs.declared.iptunnel.InfoIpTunnel.TheVariants.{Ipv6SitFlags, Ipv6Flags, Protocol}
use Rattle.link_info_tunnels.specs.declared.iptunnel.InfoIpTunnel.TheVariants.{PMtuDisc, Ipv6RdPrefix}
use Rattle.link_info_tunnels.specs.declared.iptunnel.InfoIpTunnel.TheVariants.{Ipv6RdRelayPrefix, Ipv6RdPrefixLen}
use Rattle.link_info_tunnels.specs.declared.iptunnel.InfoIpTunnel.TheVariants.{Ipv6RdRelayPrefixLen, EncapType}
use Rattle.link_info_tunnels.specs.declared.iptunnel.InfoIpTunnel.TheVariants.{EncapFlags, EncapSPort, EncapDPort}
use Rattle.link_info_tunnels.specs.declared.iptunnel.InfoIpTunnel.TheVariants.{CollectMetadata, FwMark, Other}

-- The shape of the flags under a kind of link; other kinds have none.
abbrev pub tunnel_flags : InfoKind → Shape
tunnel_flags Kind.IpIp = exact 2
tunnel_flags Kind.SitTun = exact 2
tunnel_flags Kind.Ip6Tnl = exact 4
tunnel_flags _ = never

-- The table under a kind of link.
unfoldable pub ip_tunnel_of : InfoKind → Table
ip_tunnel_of k = ip_tunnel (tunnel_flags k)

-- The rule of a list of these data.
abbrev pub ip_tunnel_rule : InfoKind → Rule
ip_tunnel_rule k = table_list_rule bytes_peer any (ip_tunnel (tunnel_flags k))

-- The first attribute of a list of these data is accepted.
abbrev pub ip_tunnel_begins_accepted : InfoKind → List ℕ → Bool
ip_tunnel_begins_accepted k b = begins_accepted (family_row (ip_tunnel (tunnel_flags k))) b

-- The attribute of a value.
abbrev pub ip_tunnel_entry : InfoIpTunnel → Attribute
ip_tunnel_entry (Link n) = attribute 1 (le4 n)
ip_tunnel_entry (Local a) = attribute 2 (ip_octets a)
ip_tunnel_entry (Remote a) = attribute 3 (ip_octets a)
ip_tunnel_entry (Ttl n) = attribute 4 (n ∷ [])
ip_tunnel_entry (Tos n) = attribute 5 (n ∷ [])
ip_tunnel_entry (EncapLimit n) = attribute 6 (n ∷ [])
ip_tunnel_entry (FlowInfo n) = attribute 7 (be4 n)
ip_tunnel_entry (Ipv4Flags n) = attribute 8 (be2 n)
ip_tunnel_entry (Ipv6SitFlags n) = attribute 8 (be2 n)
ip_tunnel_entry (Ipv6Flags f) = attribute 8 (le4 (ip6_tunnel_flags_bits f))
ip_tunnel_entry (Protocol p) = attribute 9 (ip_protocol_number p ∷ [])
ip_tunnel_entry (PMtuDisc b) = attribute 10 (boolean_byte b)
ip_tunnel_entry (Ipv6RdPrefix a) = attribute 11 (ipv6_octets a)
ip_tunnel_entry (Ipv6RdRelayPrefix a) = attribute 12 (ipv4_octets a)
ip_tunnel_entry (Ipv6RdPrefixLen n) = attribute 13 (le2 n)
ip_tunnel_entry (Ipv6RdRelayPrefixLen n) = attribute 14 (le2 n)
ip_tunnel_entry (EncapType t) = attribute 15 (le2 (tunnel_encap_type_number t))
ip_tunnel_entry (EncapFlags f) = attribute 16 (le2 (tunnel_encap_flags_bits f))
ip_tunnel_entry (EncapSPort n) = attribute 17 (be2 n)
ip_tunnel_entry (EncapDPort n) = attribute 18 (be2 n)
ip_tunnel_entry CollectMetadata = attribute 19 []
ip_tunnel_entry (FwMark n) = attribute 20 (le4 n)
ip_tunnel_entry (Other a) = a

-- The value is the variant of its row: flags are those of the kind of link, a listed protocol or encapsulation is no
-- `Other`, and neither is an attribute whose kind has a row.
abbrev pub ip_tunnel_is_row_variant : InfoKind → InfoIpTunnel → Type 0
ip_tunnel_is_row_variant k (Local a) = HasAddressLength a
ip_tunnel_is_row_variant k (Remote a) = HasAddressLength a
ip_tunnel_is_row_variant k (Ipv4Flags n) = k ≡ Kind.IpIp
ip_tunnel_is_row_variant k (Ipv6SitFlags n) = k ≡ Kind.SitTun
ip_tunnel_is_row_variant k (Ipv6Flags f) = k ≡ Kind.Ip6Tnl
ip_tunnel_is_row_variant k (Protocol p) = p ≡ ip_protocol_of (ip_protocol_number p)
ip_tunnel_is_row_variant k (EncapType t) = t ≡ tunnel_encap_type_of (tunnel_encap_type_number t)
ip_tunnel_is_row_variant k (Other a) = HasNoRow (ip_tunnel_of k) (proper_kind a.kind)
ip_tunnel_is_row_variant k _ = Unit {0}
