-- Values of `InfoIpTunnel` with equal attributes are equal.
use Rattle.std.proofs.Common.{List, [], ◌∷◌, refl, Option, ℕ}
use Rattle.netlink_packet_core.specs.Attributes.{Attribute}
use Rattle.attribute_tables_grammar.specs.LookUps.{line_at}
use Rattle.link_info_kinds.specs.declared.info_kind.InfoKind.{InfoKind}
use Rattle.link_info_kinds.specs.declared.info_kind.InfoKind.TheVariants as Kind
use Rattle.link_info_tunnels.specs.declared.iptunnel.InfoIpTunnel.{InfoIpTunnel}
use Rattle.link_info_tunnels.specs.declared.iptunnel.InfoIpTunnel.TheVariants.{Link, Local, Remote, Ttl, Tos, EncapLimit, FlowInfo, Ipv4Flags, Ipv6SitFlags, Ipv6Flags, Protocol, PMtuDisc, Ipv6RdPrefix, Ipv6RdRelayPrefix, Ipv6RdPrefixLen, Ipv6RdRelayPrefixLen, EncapType, EncapFlags, EncapSPort, EncapDPort, CollectMetadata, FwMark, Other}
use Rattle.link_info_types.specs.IpProtocols.{ip_protocol_of}
use Rattle.link_info_types.specs.IpTunnelTypes.{tunnel_encap_type_of}
use Rattle.link_info_tunnels.specs.IpTunnel.{ip_tunnel_entry, ip_tunnel_is_row_variant, ip_tunnel_of}
use Rattle.link_info_tunnels.specs.contracts.iptunnel.InfoIpTunnelPartialEq.TheImpl as equality
use Rattle.link_info_tunnels.specs.contracts.iptunnel.InfoIpTunnelEq.TheImpl.Laws.{laws-law}
use Rattle.link_message.specs.Injective.{IsInjective}
use Rattle.link_message.proofs.Decoders.{RoundTrip, injective_by, value_of, round_trips, be2_of, be4_of, boolean_of, byte_of, flag_of, ip_of, ipv4_of, ipv6_of, le2_of, le4_of}

-- The flags of a tunnel depend on its kind.
abbrev flags : InfoKind → List ℕ → InfoIpTunnel
flags Kind.SitTun p = Ipv6SitFlags (be2_of p)
flags Kind.Ip6Tnl p = Ipv6Flags (record { 0 = le4_of p })
flags k p = Ipv4Flags (be2_of p)

-- The value that an attribute encodes.
abbrev value : (k : InfoKind) → Attribute → Option InfoIpTunnel
value k = value_of (line_at (ip_tunnel_of k)) Other (
    (1, λ p. Link (le4_of p)) ∷
    (2, λ p. Local (ip_of p)) ∷
    (3, λ p. Remote (ip_of p)) ∷
    (4, λ p. Ttl (byte_of p)) ∷
    (5, λ p. Tos (byte_of p)) ∷
    (6, λ p. EncapLimit (byte_of p)) ∷
    (7, λ p. FlowInfo (be4_of p)) ∷
    (8, flags k) ∷
    (9, λ p. Protocol (ip_protocol_of (byte_of p))) ∷
    (10, λ p. PMtuDisc (boolean_of p)) ∷
    (11, λ p. Ipv6RdPrefix (ipv6_of p)) ∷
    (12, λ p. Ipv6RdRelayPrefix (ipv4_of p)) ∷
    (13, λ p. Ipv6RdPrefixLen (le2_of p)) ∷
    (14, λ p. Ipv6RdRelayPrefixLen (le2_of p)) ∷
    (15, λ p. EncapType (tunnel_encap_type_of (le2_of p))) ∷
    (16, λ p. EncapFlags (record { 0 = le2_of p })) ∷
    (17, λ p. EncapSPort (be2_of p)) ∷
    (18, λ p. EncapDPort (be2_of p)) ∷
    (19, flag_of CollectMetadata) ∷
    (20, λ p. FwMark (le4_of p)) ∷ [])

round_trip : (k : InfoKind) → RoundTrip ip_tunnel_entry (ip_tunnel_is_row_variant k) (value k)
unfolding ip_tunnel_of
round_trip k (Ipv4Flags a) h = rw h (simp round_trips)
round_trip k (Ipv6SitFlags a) h = rw h (simp round_trips)
round_trip k (Ipv6Flags a) h = rw h (simp round_trips)
round_trip k (Other a) h = rw h refl
round_trip k v h = simp round_trips cc

pub ip_tunnel_injective : (k : InfoKind) → IsInjective (equality.ghosts).eq ip_tunnel_entry (ip_tunnel_is_row_variant k)
ip_tunnel_injective k = injective_by _ laws-law.refl _ _ (value k) (round_trip k)
