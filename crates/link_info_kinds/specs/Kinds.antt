-- The kind of a link, by its name.
use Rattle.std.specs.Prelude.{◌≡◌, ◌==◌, ◌&&◌, ℕ, Bool, true, List, [], ◌∷◌, ◌++◌, codes, string_bytes, Option, Some}
use Rattle.std.specs.Prelude.{None}
use Rattle.netlink_packet_core.specs.Attributes.{Attribute, proper_kind}
use Rattle.netlink_packet_core.specs.AttributeViews.{viewed_kind, viewed_payload}
use Rattle.netlink_packet_core.specs.Texts.{is_text, without_nul}
use Rattle.link_info_grammar.specs.Families.{kind_names}
use Rattle.link_info_grammar.specs.KindNames.{is_unlisted}
use Rattle.link_info_kinds.specs.declared.info_kind.InfoKind.{InfoKind}
use Rattle.link_info_kinds.specs.declared.info_kind.InfoKind.TheVariants as Kind

-- The name of a kind.
abbrev pub info_kind_text : InfoKind → List ℕ
info_kind_text Kind.Dummy = codes "dummy"
info_kind_text Kind.Ifb = codes "ifb"
info_kind_text Kind.Bridge = codes "bridge"
info_kind_text Kind.Tun = codes "tun"
info_kind_text Kind.Nlmon = codes "nlmon"
info_kind_text Kind.Vlan = codes "vlan"
info_kind_text Kind.Veth = codes "veth"
info_kind_text Kind.Vxlan = codes "vxlan"
info_kind_text Kind.Bond = codes "bond"
info_kind_text Kind.IpVlan = codes "ipvlan"
info_kind_text Kind.IpVtap = codes "ipvtap"
info_kind_text Kind.MacVlan = codes "macvlan"
info_kind_text Kind.MacVtap = codes "macvtap"
info_kind_text Kind.GreTap = codes "gretap"
info_kind_text Kind.GreTap6 = codes "ip6gretap"
info_kind_text Kind.IpIp = codes "ipip"
info_kind_text Kind.Ip6Tnl = codes "ip6tnl"
info_kind_text Kind.SitTun = codes "sit"
info_kind_text Kind.GreTun = codes "gre"
info_kind_text Kind.GreTun6 = codes "ip6gre"
info_kind_text Kind.Vti = codes "vti"
info_kind_text Kind.Vti6 = codes "vti6"
info_kind_text Kind.Vrf = codes "vrf"
info_kind_text Kind.Gtp = codes "gtp"
info_kind_text Kind.Ipoib = codes "ipoib"
info_kind_text Kind.Wireguard = codes "wireguard"
info_kind_text Kind.Xfrm = codes "xfrm"
info_kind_text Kind.MacSec = codes "macsec"
info_kind_text Kind.Hsr = codes "hsr"
info_kind_text Kind.Geneve = codes "geneve"
info_kind_text Kind.Netkit = codes "netkit"
info_kind_text Kind.Vcan = codes "vcan"
info_kind_text Kind.Vxcan = codes "vxcan"
info_kind_text Kind.Amt = codes "amt"
info_kind_text Kind.BatAdv = codes "batadv"
info_kind_text Kind.BareUdp = codes "bareudp"
info_kind_text Kind.Netdevsim = codes "netdevsim"
info_kind_text Kind.VirtWifi = codes "virt_wifi"
info_kind_text Kind.Wwan = codes "wwan"
info_kind_text Kind.Can = codes "can"
info_kind_text Kind.Dsa = codes "dsa"
info_kind_text Kind.Team = codes "team"
info_kind_text Kind.ErSpan = codes "erspan"
info_kind_text Kind.Ip6ErSpan = codes "ip6erspan"
info_kind_text Kind.Pfcp = codes "pfcp"
info_kind_text Kind.RmNet = codes "rmnet"
info_kind_text (Kind.Other s) = string_bytes s

-- The first half of the variants except `Other`, up to `Vrf`: those that `with_early_name` finds.
abbrev pub early_kinds : List InfoKind
early_kinds =
    Kind.Dummy ∷ Kind.Ifb ∷ Kind.Bridge ∷ Kind.Tun ∷ Kind.Nlmon ∷ Kind.Vlan ∷ Kind.Veth ∷ Kind.Vxlan ∷ Kind.Bond ∷
    Kind.IpVlan ∷ Kind.IpVtap ∷
    Kind.MacVlan ∷ Kind.MacVtap ∷ Kind.GreTap ∷ Kind.GreTap6 ∷ Kind.IpIp ∷ Kind.Ip6Tnl ∷ Kind.SitTun ∷ Kind.GreTun ∷
    Kind.GreTun6 ∷ Kind.Vti ∷
    Kind.Vti6 ∷ Kind.Vrf ∷ []

-- The second half of the variants except `Other`, from `Gtp` on: those that `with_late_name` finds.
abbrev pub late_kinds : List InfoKind
late_kinds =
    Kind.Gtp ∷ Kind.Ipoib ∷ Kind.Wireguard ∷ Kind.Xfrm ∷ Kind.MacSec ∷ Kind.Hsr ∷ Kind.Geneve ∷ Kind.Netkit ∷
    Kind.Vcan ∷ Kind.Vxcan ∷ Kind.Amt ∷
    Kind.BatAdv ∷ Kind.BareUdp ∷ Kind.Netdevsim ∷ Kind.VirtWifi ∷ Kind.Wwan ∷ Kind.Can ∷ Kind.Dsa ∷ Kind.Team ∷
    Kind.ErSpan ∷ Kind.Ip6ErSpan ∷
    Kind.Pfcp ∷ Kind.RmNet ∷ []

-- The variants except `Other`, in the order of `kind_names`.
abbrev pub listed_kinds : List InfoKind
listed_kinds = early_kinds ++ late_kinds

-- The kind, unless it is `Other`.
abbrev pub listed_kind : InfoKind → Option InfoKind
listed_kind (Kind.Other s) = None
listed_kind k = Some k

-- The kind is the one of its name: no listed name is in an `Other`.
abbrev pub info_kind_is_named : InfoKind → Bool
info_kind_is_named (Kind.Other s) = is_unlisted kind_names (string_bytes s)
info_kind_is_named _ = true

-- The kind is the one with this name.
abbrev pub IsNamedBy : List ℕ → InfoKind → Type 0
IsNamedBy n k = (info_kind_text k ≡ n) × (info_kind_is_named k ≡ true)

-- The attribute of a kind: IFLA_INFO_KIND with the name and a NUL.
abbrev pub info_kind_entry : InfoKind → Attribute
info_kind_entry k = record { kind = 1; payload = info_kind_text k ++ 0 ∷ [] }

-- The attribute at the start of the bytes is accepted as a kind.
abbrev pub info_kind_accepted : List ℕ → Bool
info_kind_accepted b = (proper_kind (viewed_kind b) == 1) && is_text (viewed_payload b)

-- The attribute is accepted, and its name is allocated, since it isn't listed.
abbrev pub info_kind_allocates : List ℕ → Bool
info_kind_allocates b =
    info_kind_accepted b && is_unlisted kind_names (without_nul (viewed_payload b))
