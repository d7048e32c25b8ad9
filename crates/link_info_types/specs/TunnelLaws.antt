-- The laws of constants, as the functions of `laws` state them.
use Rattle.std.specs.Prelude.{◌≡◌, ℕ, List, [], ◌∷◌, codes}
use Rattle.link_info_types.specs.GreTypes.{gre_io_flags_bits, gre_io_flags_table, gre_encap_flags_bits}
use Rattle.link_info_types.specs.GreTypes.{gre_encap_flags_table}
use Rattle.link_info_types.specs.IpTunnelTypes.{tunnel_encap_flags_bits, tunnel_encap_flags_table}
use Rattle.link_info_types.specs.IpTunnelTypes.{ip6_tunnel_flags_bits, ip6_tunnel_flags_table}
use Rattle.link_info_types.specs.declared.gre.TheConstants.GreIOFlags as Gre
use Rattle.link_info_types.specs.declared.gre.TheConstants.GreEncapFlags as GreEncap
use Rattle.link_info_types.specs.declared.iptunnel.TheConstants.TunnelEncapFlags as TunnelEncap
use Rattle.link_info_types.specs.declared.iptunnel.TheConstants.Ip6TunnelFlags as Ip6Tunnel

-- The constants of GRE header flags, each with its name and its bits.
abbrev pub gre_io_flags_constants : List (List ℕ × ℕ)
gre_io_flags_constants =
    (codes "Checksum", gre_io_flags_bits Gre.Checksum) ∷
    (codes "Routing", gre_io_flags_bits Gre.Routing) ∷
    (codes "Key", gre_io_flags_bits Gre.Key) ∷
    (codes "Seq", gre_io_flags_bits Gre.Seq) ∷
    (codes "Strict0", gre_io_flags_bits Gre.Strict0) ∷
    (codes "Rec", gre_io_flags_bits Gre.Rec) ∷
    (codes "Ack", gre_io_flags_bits Gre.Ack) ∷
    (codes "Flags", gre_io_flags_bits Gre.Flags) ∷
    (codes "Version", gre_io_flags_bits Gre.Version) ∷
    []

-- The constants of GRE encapsulation flags, each with its name and its bits.
abbrev pub gre_encap_flags_constants : List (List ℕ × ℕ)
gre_encap_flags_constants =
    (codes "Checksum", gre_encap_flags_bits GreEncap.Checksum) ∷
    (codes "Checksum6", gre_encap_flags_bits GreEncap.Checksum6) ∷
    (codes "RemoteChecksum", gre_encap_flags_bits GreEncap.RemoteChecksum) ∷
    []

-- The constants of IP tunnel encapsulation flags, each with its name and its bits.
abbrev pub tunnel_encap_flags_constants : List (List ℕ × ℕ)
tunnel_encap_flags_constants =
    (codes "CSum", tunnel_encap_flags_bits TunnelEncap.CSum) ∷
    (codes "CSum6", tunnel_encap_flags_bits TunnelEncap.CSum6) ∷
    (codes "RemCSum", tunnel_encap_flags_bits TunnelEncap.RemCSum) ∷
    []

-- The constants of IPv6 tunnel flags, each with its name and its bits.
abbrev pub ip6_tunnel_flags_constants : List (List ℕ × ℕ)
ip6_tunnel_flags_constants =
    (codes "IgnEncapLimit", ip6_tunnel_flags_bits Ip6Tunnel.IgnEncapLimit) ∷
    (codes "UseOrigTclass", ip6_tunnel_flags_bits Ip6Tunnel.UseOrigTclass) ∷
    (codes "UseOrigFlowlabel", ip6_tunnel_flags_bits Ip6Tunnel.UseOrigFlowlabel) ∷
    (codes "Mip6Dev", ip6_tunnel_flags_bits Ip6Tunnel.Mip6Dev) ∷
    (codes "RcvDscpCopy", ip6_tunnel_flags_bits Ip6Tunnel.RcvDscpCopy) ∷
    (codes "UseOrigFwMark", ip6_tunnel_flags_bits Ip6Tunnel.UseOrigFwMark) ∷
    (codes "AllowLocalRemote", ip6_tunnel_flags_bits Ip6Tunnel.AllowLocalRemote) ∷
    (codes "CapXmit", ip6_tunnel_flags_bits Ip6Tunnel.CapXmit) ∷
    (codes "CapRcv", ip6_tunnel_flags_bits Ip6Tunnel.CapRcv) ∷
    (codes "CapPerPacket", ip6_tunnel_flags_bits Ip6Tunnel.CapPerPacket) ∷
    []

-- The constant of each flag has the bits of its name in the table.
pub record TunnelConstantsAreNamed : Type 0 where
  pub flags_of_gre_headers : gre_io_flags_constants ≡ gre_io_flags_table
  pub flags_of_gre_encapsulation : gre_encap_flags_constants ≡ gre_encap_flags_table
  pub flags_of_encapsulation : tunnel_encap_flags_constants ≡ tunnel_encap_flags_table
  pub flags_of_ip6_tunnels : ip6_tunnel_flags_constants ≡ ip6_tunnel_flags_table
