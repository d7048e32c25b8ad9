-- The numbers, texts and flags of IP tunnels.
use Rattle.std.specs.Prelude.{ℕ, List, [], ◌∷◌, codes}
use Rattle.std.specs.Fmt.{decimal}
use Rattle.netlink_packet_core.specs.Named.{numbered_by}
use Rattle.link_info_types.specs.declared.iptunnel.TunnelEncapType.{TunnelEncapType}
use Rattle.link_info_types.specs.declared.iptunnel.TunnelEncapFlags.{TunnelEncapFlags}
use Rattle.link_info_types.specs.declared.iptunnel.Ip6TunnelFlags.{Ip6TunnelFlags}

-- The number and the display of an IP tunnel encapsulation type.
abbrev pub tunnel_encap_type_row : TunnelEncapType → ℕ × List ℕ
tunnel_encap_type_row TunnelEncapType.None = (0, codes "none")
tunnel_encap_type_row TunnelEncapType.Fou = (1, codes "fou")
tunnel_encap_type_row TunnelEncapType.Gue = (2, codes "gue")
tunnel_encap_type_row TunnelEncapType.Mpls = (3, codes "mpls")
tunnel_encap_type_row (TunnelEncapType.Other n) = (n, decimal n)

-- The variants of an IP tunnel encapsulation type, except `Other`, in the order of their numbers.
abbrev pub listed_tunnel_encap_types : List TunnelEncapType
listed_tunnel_encap_types =
    TunnelEncapType.None ∷ TunnelEncapType.Fou ∷ TunnelEncapType.Gue ∷ TunnelEncapType.Mpls ∷ []

-- The number of an IP tunnel encapsulation type.
abbrev pub tunnel_encap_type_number : TunnelEncapType → ℕ
tunnel_encap_type_number v = (tunnel_encap_type_row v).0

-- The IP tunnel encapsulation type with this number.
abbrev pub tunnel_encap_type_of : ℕ → TunnelEncapType
tunnel_encap_type_of n =
    numbered_by tunnel_encap_type_number listed_tunnel_encap_types TunnelEncapType.Other n

-- The display of an IP tunnel encapsulation type.
abbrev pub tunnel_encap_type_text : TunnelEncapType → List ℕ
tunnel_encap_type_text v = (tunnel_encap_type_row v).1

-- The bits of a set of IP tunnel encapsulation flags.
abbrev pub tunnel_encap_flags_bits : TunnelEncapFlags → ℕ
tunnel_encap_flags_bits f = f.0

-- The IP tunnel encapsulation flags that have a name, each with its bits.
abbrev pub tunnel_encap_flags_table : List (List ℕ × ℕ)
tunnel_encap_flags_table =
    (codes "CSum", 0x01) ∷
    (codes "CSum6", 0x02) ∷
    (codes "RemCSum", 0x04) ∷
    []

-- The bits of a set of IPv6 tunnel flags.
abbrev pub ip6_tunnel_flags_bits : Ip6TunnelFlags → ℕ
ip6_tunnel_flags_bits f = f.0

-- The IPv6 tunnel flags that have a name, each with its bits.
abbrev pub ip6_tunnel_flags_table : List (List ℕ × ℕ)
ip6_tunnel_flags_table =
    (codes "IgnEncapLimit", 0x01) ∷
    (codes "UseOrigTclass", 0x02) ∷
    (codes "UseOrigFlowlabel", 0x04) ∷
    (codes "Mip6Dev", 0x08) ∷
    (codes "RcvDscpCopy", 0x10) ∷
    (codes "UseOrigFwMark", 0x20) ∷
    (codes "AllowLocalRemote", 0x40) ∷
    (codes "CapXmit", 0x10000) ∷
    (codes "CapRcv", 0x20000) ∷
    (codes "CapPerPacket", 0x40000) ∷
    []
