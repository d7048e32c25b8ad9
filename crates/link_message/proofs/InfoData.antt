-- Data of kinds of links with equal payloads are equal.
pub mod Amt
pub mod Bareudp
pub mod Batadv
pub mod Geneve
pub mod Gre
pub mod Gre6
pub mod Gtp
pub mod IpTunnel
pub mod Ipoib
pub mod Ipvlan
pub mod MacVlan
pub mod Macsec
pub mod Netkit
pub mod RawData
pub mod Rmnet
pub mod Veth
pub mod Vrf
pub mod Vti
pub mod Vxlan
pub mod Wwan
pub mod Xfrm
use Rattle.std.proofs.Common.{◌≡◌, ◌⊎◌, inl, inr, Bool, true, cond, Option, Some, None, refl, sym, ap, ◌∙◌, subst, arith, All}
use lib.Pointwise.{bytes_decides}
use Rattle.link_info_kinds.specs.Kinds.{listed_kind}
use Rattle.link_info_kinds.specs.declared.info_kind.InfoKind.{InfoKind}
use Rattle.link_info_kinds.specs.declared.info_kind.InfoKind.TheVariants as Kind
use Rattle.link_info_tunnels.specs.IpTunnel.{ip_tunnel_is_row_variant}
use Rattle.link_info_data.specs.Data.{info_data_payload, info_data_is_row_variant, keeps_bytes}
use Rattle.link_info_data.specs.declared.info_data.InfoData.{InfoData}
use Rattle.link_info_data.specs.declared.info_data.InfoData.TheVariants as Data
use Rattle.link_info_data.specs.contracts.info_data.InfoDataPartialEq.TheImpl as equality
use Rattle.link_message.proofs.InfoKinds.{listed_is}
use Rattle.link_message.proofs.Lists.{lists_injective, one_attribute}

abbrev equal : InfoData → InfoData → Bool
equal = (equality.ghosts).eq

-- The kind that names a variant, the first of them if several do; `Other` has none.
abbrev kind_of_variant : InfoData → Option InfoKind
kind_of_variant (Data.Bridge a) = Some Kind.Bridge
kind_of_variant (Data.Can a) = Some Kind.Can
kind_of_variant (Data.Tun a) = Some Kind.Tun
kind_of_variant (Data.Vlan a) = Some Kind.Vlan
kind_of_variant (Data.Veth a) = Some Kind.Veth
kind_of_variant (Data.Vxlan a) = Some Kind.Vxlan
kind_of_variant (Data.Bond a) = Some Kind.Bond
kind_of_variant (Data.IpVlan a) = Some Kind.IpVlan
kind_of_variant (Data.IpVtap a) = Some Kind.IpVtap
kind_of_variant (Data.MacVlan a) = Some Kind.MacVlan
kind_of_variant (Data.MacVtap a) = Some Kind.MacVtap
kind_of_variant (Data.GreTap a) = Some Kind.GreTap
kind_of_variant (Data.GreTap6 a) = Some Kind.GreTap6
kind_of_variant (Data.GreTun a) = Some Kind.GreTun
kind_of_variant (Data.GreTun6 a) = Some Kind.GreTun6
kind_of_variant (Data.Vti a) = Some Kind.Vti
kind_of_variant (Data.Vrf a) = Some Kind.Vrf
kind_of_variant (Data.Gtp a) = Some Kind.Gtp
kind_of_variant (Data.Ipoib a) = Some Kind.Ipoib
kind_of_variant (Data.Xfrm a) = Some Kind.Xfrm
kind_of_variant (Data.MacSec a) = Some Kind.MacSec
kind_of_variant (Data.Hsr a) = Some Kind.Hsr
kind_of_variant (Data.Geneve a) = Some Kind.Geneve
kind_of_variant (Data.IpTunnel a) = Some Kind.IpIp
kind_of_variant (Data.Netkit a) = Some Kind.Netkit
kind_of_variant (Data.Vxcan a) = Some Kind.Vxcan
kind_of_variant (Data.Amt a) = Some Kind.Amt
kind_of_variant (Data.BatAdv a) = Some Kind.BatAdv
kind_of_variant (Data.BareUdp a) = Some Kind.BareUdp
kind_of_variant (Data.Dsa a) = Some Kind.Dsa
kind_of_variant (Data.Wwan a) = Some Kind.Wwan
kind_of_variant (Data.RmNet a) = Some Kind.RmNet
kind_of_variant (Data.ErSpan a) = Some Kind.ErSpan
kind_of_variant (Data.Ip6ErSpan a) = Some Kind.Ip6ErSpan
kind_of_variant (Data.Wireguard a) = Some Kind.Wireguard
kind_of_variant (Data.Other b) = None

-- The first kind that names the same variant.
abbrev main_kind : InfoKind → InfoKind
main_kind Kind.Vti6 = Kind.Vti
main_kind Kind.Ip6Tnl = Kind.IpIp
main_kind Kind.SitTun = Kind.IpIp
main_kind k = k

-- The first kind that names the variant of a listed kind, unless the data are kept as bytes.
abbrev first_kind : Option InfoKind → Option InfoKind
first_kind None = None
first_kind (Some k) = cond (keeps_bytes k) None (Some (main_kind k))

of_kind : (k n : InfoKind) → k ≡ n → first_kind (listed_kind n) ≡ first_kind (listed_kind k)
of_kind k n e = ap (λ j. first_kind (listed_kind j)) (sym e)

kept : (k : InfoKind) (o : Option InfoKind) → listed_kind k ≡ o → keeps_bytes k ≡ true → None ≡ first_kind o
kept k None h p = refl
kept k (Some n) h p = let q : keeps_bytes n ≡ true = ap keeps_bytes (sym (listed_is k n h)) ∙ p in rw q refl

variant_is_of_kind : (k : InfoKind) (d : InfoData) → info_data_is_row_variant k d → kind_of_variant d ≡ first_kind (listed_kind k)
variant_is_of_kind k (Data.Vti a) (inl p, q) = of_kind k Kind.Vti p
variant_is_of_kind k (Data.Vti a) (inr p, q) = of_kind k Kind.Vti6 p
variant_is_of_kind k (Data.IpTunnel a) (inl p, q) = of_kind k Kind.IpIp p
variant_is_of_kind k (Data.IpTunnel a) (inr (inl p), q) = of_kind k Kind.Ip6Tnl p
variant_is_of_kind k (Data.IpTunnel a) (inr (inr p), q) = of_kind k Kind.SitTun p
variant_is_of_kind k (Data.Other b) p = kept k (listed_kind k) refl p
variant_is_of_kind k d p = cc

-- the kinds of tunnels that share a table
listed_tunnel : (k : InfoKind) → (k ≡ Kind.IpIp) ⊎ (k ≡ Kind.Ip6Tnl) ⊎ (k ≡ Kind.SitTun) → (n : InfoKind) × (listed_kind k ≡ Some n)
listed_tunnel k (inl p) = (Kind.IpIp, ap listed_kind p)
listed_tunnel k (inr (inl p)) = (Kind.Ip6Tnl, ap listed_kind p)
listed_tunnel k (inr (inr p)) = (Kind.SitTun, ap listed_kind p)

tunnels_equal : (k m : InfoKind) → listed_kind k ≡ listed_kind m → (k ≡ Kind.IpIp) ⊎ (k ≡ Kind.Ip6Tnl) ⊎ (k ≡ Kind.SitTun) → k ≡ m
tunnels_equal k m l p =
    let t = listed_tunnel k p in
    listed_is k t.0 t.1 ∙ sym (listed_is m t.0 (sym l ∙ t.1))

by_variant : (k m : InfoKind) (d e : InfoData) → listed_kind k ≡ listed_kind m → kind_of_variant d ≡ kind_of_variant e → info_data_is_row_variant k d → info_data_is_row_variant m e → info_data_payload d ≡ info_data_payload e → equal d e ≡ true
by_variant k m (Data.Bridge x) (Data.Bridge y) l i p q e = RawData.lists_injective _ (record { fits = omega arith }) x.items y.items e
by_variant k m (Data.Can x) (Data.Can y) l i p q e = RawData.lists_injective _ (record { fits = omega arith }) x.items y.items e
by_variant k m (Data.Tun x) (Data.Tun y) l i p q e = RawData.lists_injective _ (record { fits = omega arith }) x.items y.items e
by_variant k m (Data.Vlan x) (Data.Vlan y) l i p q e = RawData.lists_injective _ (record { fits = omega arith }) x.items y.items e
by_variant k m (Data.Veth x) (Data.Veth y) l i p q e = Veth.pair_injective _ (record { fits = omega arith }) x y p.1 q.1 (one_attribute _ _ e)
by_variant k m (Data.Vxlan x) (Data.Vxlan y) l i p q e = lists_injective _ _ _ Vxlan.vxlan_injective x.items y.items p.1 q.1 e
by_variant k m (Data.Bond x) (Data.Bond y) l i p q e = RawData.lists_injective _ (record { fits = omega arith }) x.items y.items e
by_variant k m (Data.IpVlan x) (Data.IpVlan y) l i p q e = lists_injective _ _ _ (Ipvlan.ipvlan_injective _ (record { fits = omega arith })) x.items y.items p.1 q.1 e
by_variant k m (Data.IpVtap x) (Data.IpVtap y) l i p q e = lists_injective _ _ _ (Ipvlan.ipvlan_injective _ (record { fits = omega arith })) x.items y.items p.1 q.1 e
by_variant k m (Data.MacVlan x) (Data.MacVlan y) l i p q e = lists_injective _ _ _ MacVlan.mac_vlan_injective x.items y.items p.1 q.1 e
by_variant k m (Data.MacVtap x) (Data.MacVtap y) l i p q e = lists_injective _ _ _ MacVlan.mac_vlan_injective x.items y.items p.1 q.1 e
by_variant k m (Data.GreTap x) (Data.GreTap y) l i p q e = lists_injective _ _ _ Gre.gre_injective x.items y.items p.1 q.1 e
by_variant k m (Data.GreTap6 x) (Data.GreTap6 y) l i p q e = lists_injective _ _ _ Gre6.gre6_injective x.items y.items p.1 q.1 e
by_variant k m (Data.GreTun x) (Data.GreTun y) l i p q e = lists_injective _ _ _ Gre.gre_injective x.items y.items p.1 q.1 e
by_variant k m (Data.GreTun6 x) (Data.GreTun6 y) l i p q e = lists_injective _ _ _ Gre6.gre6_injective x.items y.items p.1 q.1 e
by_variant k m (Data.Vti x) (Data.Vti y) l i p q e = lists_injective _ _ _ Vti.vti_injective x.items y.items p.1 q.1 e
by_variant k m (Data.Vrf x) (Data.Vrf y) l i p q e = lists_injective _ _ _ Vrf.vrf_injective x.items y.items p.1 q.1 e
by_variant k m (Data.Gtp x) (Data.Gtp y) l i p q e = lists_injective _ _ _ Gtp.gtp_injective x.items y.items p.1 q.1 e
by_variant k m (Data.Ipoib x) (Data.Ipoib y) l i p q e = lists_injective _ _ _ Ipoib.ipoib_injective x.items y.items p.1 q.1 e
by_variant k m (Data.Xfrm x) (Data.Xfrm y) l i p q e = lists_injective _ _ _ Xfrm.xfrm_injective x.items y.items p.1 q.1 e
by_variant k m (Data.MacSec x) (Data.MacSec y) l i p q e = lists_injective _ _ _ Macsec.macsec_injective x.items y.items p.1 q.1 e
by_variant k m (Data.Hsr x) (Data.Hsr y) l i p q e = RawData.lists_injective _ (record { fits = omega arith }) x.items y.items e
by_variant k m (Data.Geneve x) (Data.Geneve y) l i p q e = lists_injective _ _ _ Geneve.geneve_injective x.items y.items p.1 q.1 e
by_variant k m (Data.IpTunnel x) (Data.IpTunnel y) l i p q e =
    let same_kind : k ≡ m = tunnels_equal k m l p.0 in
    lists_injective _ _ _ (IpTunnel.ip_tunnel_injective k) x.items y.items p.1 (subst (λ h. All (ip_tunnel_is_row_variant h) y.items) (sym same_kind) q.1) e
by_variant k m (Data.Netkit x) (Data.Netkit y) l i p q e = lists_injective _ _ _ Netkit.netkit_injective x.items y.items p.1 q.1 e
by_variant k m (Data.Vxcan x) (Data.Vxcan y) l i p q e = Veth.pair_injective _ (record { fits = omega arith }) x y p.1 q.1 (one_attribute _ _ e)
by_variant k m (Data.Amt x) (Data.Amt y) l i p q e = lists_injective _ _ _ Amt.amt_injective x.items y.items p.1 q.1 e
by_variant k m (Data.BatAdv x) (Data.BatAdv y) l i p q e = lists_injective _ _ _ Batadv.batadv_injective x.items y.items p.1 q.1 e
by_variant k m (Data.BareUdp x) (Data.BareUdp y) l i p q e = lists_injective _ _ _ Bareudp.bareudp_injective x.items y.items p.1 q.1 e
by_variant k m (Data.Dsa x) (Data.Dsa y) l i p q e = RawData.lists_injective _ (record { fits = omega arith }) x.items y.items e
by_variant k m (Data.Wwan x) (Data.Wwan y) l i p q e = lists_injective _ _ _ Wwan.wwan_injective x.items y.items p.1 q.1 e
by_variant k m (Data.RmNet x) (Data.RmNet y) l i p q e = lists_injective _ _ _ Rmnet.rmnet_injective x.items y.items p.1 q.1 e
by_variant k m (Data.ErSpan x) (Data.ErSpan y) l i p q e = lists_injective _ _ _ Gre.gre_injective x.items y.items p.1 q.1 e
by_variant k m (Data.Ip6ErSpan x) (Data.Ip6ErSpan y) l i p q e = lists_injective _ _ _ Gre6.gre6_injective x.items y.items p.1 q.1 e
by_variant k m (Data.Wireguard x) (Data.Wireguard y) l i p q e = RawData.lists_injective _ (record { fits = omega arith }) x.items y.items e
by_variant k m (Data.Other x) (Data.Other y) l i p q e = (bytes_decides x.items y.items).1 e
by_variant k m d e _ i _ _ _ = absurd cc

pub data_injective : (k m : InfoKind) (d e : InfoData) → listed_kind k ≡ listed_kind m → info_data_is_row_variant k d → info_data_is_row_variant m e → info_data_payload d ≡ info_data_payload e → equal d e ≡ true
data_injective k m d e l p q h = by_variant k m d e l (variant_is_of_kind k d p ∙ ap first_kind l ∙ sym (variant_is_of_kind m e q)) p q h
