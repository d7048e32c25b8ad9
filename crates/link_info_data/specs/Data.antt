-- The data of a kind of link: the rule of each kind, and the payload of each value.
use Rattle.std.specs.Prelude.{◌≡◌, ℕ, Bool, true, false, ◌⊎◌, List, Option, None}
use Rattle.std.specs.Option.{is_none}
use Rattle.std.specs.List.{All}
use Rattle.netlink_packet_core.specs.Attributes.{Attribute, attribute_text}
use Rattle.netlink_packet_core.specs.Fits.{attribute_fits}
use Rattle.netlink_packet_core.specs.Lists.{text_by, all_fit_by}
use Rattle.attribute_tables_grammar.specs.LookUps.{payload_at, rule_or_raw}
use Rattle.attribute_tables_grammar.specs.Peers.{RuleOfPeers, bytes_peer}
use Rattle.attribute_tables_grammar.specs.Rules.{Rule}
use Rattle.attribute_tables_grammar.specs.Tables.{Payload}
use Rattle.link_info_grammar.specs.Families.{kinds}
use Rattle.link_info_devices.specs.Batadv.{batadv_entry, batadv_is_row_variant}
use Rattle.link_info_devices.specs.Ipoib.{ipoib_entry, ipoib_is_row_variant}
use Rattle.link_info_devices.specs.Ipvlan.{ipvlan_entry, ipvlan_is_row_variant}
use Rattle.link_info_devices.specs.Rmnet.{rmnet_entry, rmnet_is_row_variant}
use Rattle.link_info_devices.specs.Vrf.{vrf_entry, vrf_is_row_variant}
use Rattle.link_info_devices.specs.Wwan.{wwan_entry, wwan_is_row_variant}
use Rattle.link_info_tunnels.specs.Amt.{amt_entry, amt_is_row_variant}
use Rattle.link_info_tunnels.specs.Geneve.{geneve_entry, geneve_is_row_variant}
use Rattle.link_info_tunnels.specs.Gtp.{gtp_entry, gtp_is_row_variant}
use Rattle.link_info_tunnels.specs.Vxlan.{vxlan_entry, vxlan_is_row_variant}
use Rattle.link_info_devices.specs.RawData.{raw_entry}
use Rattle.link_info_devices.specs.Netkit.{netkit_entry, netkit_is_row_variant}
use Rattle.link_info_devices.specs.Veth.{pair_entry, pair_is_row_variant}
use Rattle.link_info_devices.specs.MacVlan.{mac_vlan_entry, mac_vlan_fits, mac_vlan_is_row_variant}
use Rattle.link_info_devices.specs.Macsec.{macsec_entry, macsec_is_row_variant}
use Rattle.link_info_tunnels.specs.Bareudp.{bareudp_entry, bareudp_is_row_variant}
use Rattle.link_info_tunnels.specs.Gre.{gre_entry, gre_is_row_variant}
use Rattle.link_info_tunnels.specs.Gre6.{gre6_entry, gre6_is_row_variant}
use Rattle.link_info_tunnels.specs.IpTunnel.{ip_tunnel_entry, ip_tunnel_is_row_variant}
use Rattle.link_info_tunnels.specs.Vti.{vti_entry, vti_is_row_variant}
use Rattle.link_info_tunnels.specs.Xfrm.{xfrm_entry, xfrm_is_row_variant}
use Rattle.link_info_kinds.specs.Kinds.{info_kind_text}
use Rattle.link_info_kinds.specs.declared.info_kind.InfoKind.{InfoKind}
use Rattle.link_info_kinds.specs.declared.info_kind.InfoKind.TheVariants as Kind
use Rattle.link_info_data.specs.declared.info_data.InfoData.{InfoData}
use Rattle.link_info_data.specs.declared.info_data.InfoData.TheVariants as Data

-- The payload of the data of a kind, if it has a table. The variant decides, not the name: `Other` has none.
abbrev pub data_payload_of : InfoKind → Option Payload
data_payload_of (Kind.Other s) = None
data_payload_of k = payload_at kinds (info_kind_text k)

-- The rule of the data of a kind; data of a kind without a table are kept as bytes.
abbrev pub data_rule_of_under : RuleOfPeers → InfoKind → Rule
data_rule_of_under p k = rule_or_raw p (data_payload_of k)

-- The rule of the data of a kind, with peers as bytes.
abbrev pub data_rule_of : InfoKind → Rule
data_rule_of = data_rule_of_under bytes_peer

-- The kinds whose data hold peers.
abbrev pub has_peers : InfoKind → Bool
has_peers Kind.Netkit = true
has_peers Kind.Veth = true
has_peers Kind.Vxcan = true
has_peers _ = false

-- The data of the kind are kept as bytes.
abbrev pub keeps_bytes : InfoKind → Bool
keeps_bytes k = is_none (data_payload_of k)

-- The payload of a value.
abbrev pub info_data_payload : InfoData → List ℕ
info_data_payload (Data.Bridge vs) = text_by raw_entry vs.items
info_data_payload (Data.Can vs) = text_by raw_entry vs.items
info_data_payload (Data.Tun vs) = text_by raw_entry vs.items
info_data_payload (Data.Vlan vs) = text_by raw_entry vs.items
info_data_payload (Data.Veth v) = attribute_text (pair_entry v)
info_data_payload (Data.Vxlan vs) = text_by vxlan_entry vs.items
info_data_payload (Data.Bond vs) = text_by raw_entry vs.items
info_data_payload (Data.IpVlan vs) = text_by ipvlan_entry vs.items
info_data_payload (Data.IpVtap vs) = text_by ipvlan_entry vs.items
info_data_payload (Data.MacVlan vs) = text_by mac_vlan_entry vs.items
info_data_payload (Data.MacVtap vs) = text_by mac_vlan_entry vs.items
info_data_payload (Data.GreTap vs) = text_by gre_entry vs.items
info_data_payload (Data.GreTap6 vs) = text_by gre6_entry vs.items
info_data_payload (Data.GreTun vs) = text_by gre_entry vs.items
info_data_payload (Data.GreTun6 vs) = text_by gre6_entry vs.items
info_data_payload (Data.Vti vs) = text_by vti_entry vs.items
info_data_payload (Data.Vrf vs) = text_by vrf_entry vs.items
info_data_payload (Data.Gtp vs) = text_by gtp_entry vs.items
info_data_payload (Data.Ipoib vs) = text_by ipoib_entry vs.items
info_data_payload (Data.Xfrm vs) = text_by xfrm_entry vs.items
info_data_payload (Data.MacSec vs) = text_by macsec_entry vs.items
info_data_payload (Data.Hsr vs) = text_by raw_entry vs.items
info_data_payload (Data.Geneve vs) = text_by geneve_entry vs.items
info_data_payload (Data.IpTunnel vs) = text_by ip_tunnel_entry vs.items
info_data_payload (Data.Netkit vs) = text_by netkit_entry vs.items
info_data_payload (Data.Vxcan v) = attribute_text (pair_entry v)
info_data_payload (Data.Amt vs) = text_by amt_entry vs.items
info_data_payload (Data.BatAdv vs) = text_by batadv_entry vs.items
info_data_payload (Data.BareUdp vs) = text_by bareudp_entry vs.items
info_data_payload (Data.Dsa vs) = text_by raw_entry vs.items
info_data_payload (Data.Wwan vs) = text_by wwan_entry vs.items
info_data_payload (Data.RmNet vs) = text_by rmnet_entry vs.items
info_data_payload (Data.ErSpan vs) = text_by gre_entry vs.items
info_data_payload (Data.Ip6ErSpan vs) = text_by gre6_entry vs.items
info_data_payload (Data.Wireguard vs) = text_by raw_entry vs.items
info_data_payload (Data.Other b) = b.items

-- Each length inside a value fits the 2 bytes of its header.
abbrev pub info_data_fits : InfoData → Bool
info_data_fits (Data.Bridge vs) = all_fit_by raw_entry (λ _. true) vs.items
info_data_fits (Data.Can vs) = all_fit_by raw_entry (λ _. true) vs.items
info_data_fits (Data.Tun vs) = all_fit_by raw_entry (λ _. true) vs.items
info_data_fits (Data.Vlan vs) = all_fit_by raw_entry (λ _. true) vs.items
info_data_fits (Data.Veth v) = attribute_fits (pair_entry v)
info_data_fits (Data.Vxlan vs) = all_fit_by vxlan_entry (λ _. true) vs.items
info_data_fits (Data.Bond vs) = all_fit_by raw_entry (λ _. true) vs.items
info_data_fits (Data.IpVlan vs) = all_fit_by ipvlan_entry (λ _. true) vs.items
info_data_fits (Data.IpVtap vs) = all_fit_by ipvlan_entry (λ _. true) vs.items
info_data_fits (Data.MacVlan vs) = all_fit_by mac_vlan_entry mac_vlan_fits vs.items
info_data_fits (Data.MacVtap vs) = all_fit_by mac_vlan_entry mac_vlan_fits vs.items
info_data_fits (Data.GreTap vs) = all_fit_by gre_entry (λ _. true) vs.items
info_data_fits (Data.GreTap6 vs) = all_fit_by gre6_entry (λ _. true) vs.items
info_data_fits (Data.GreTun vs) = all_fit_by gre_entry (λ _. true) vs.items
info_data_fits (Data.GreTun6 vs) = all_fit_by gre6_entry (λ _. true) vs.items
info_data_fits (Data.Vti vs) = all_fit_by vti_entry (λ _. true) vs.items
info_data_fits (Data.Vrf vs) = all_fit_by vrf_entry (λ _. true) vs.items
info_data_fits (Data.Gtp vs) = all_fit_by gtp_entry (λ _. true) vs.items
info_data_fits (Data.Ipoib vs) = all_fit_by ipoib_entry (λ _. true) vs.items
info_data_fits (Data.Xfrm vs) = all_fit_by xfrm_entry (λ _. true) vs.items
info_data_fits (Data.MacSec vs) = all_fit_by macsec_entry (λ _. true) vs.items
info_data_fits (Data.Hsr vs) = all_fit_by raw_entry (λ _. true) vs.items
info_data_fits (Data.Geneve vs) = all_fit_by geneve_entry (λ _. true) vs.items
info_data_fits (Data.IpTunnel vs) = all_fit_by ip_tunnel_entry (λ _. true) vs.items
info_data_fits (Data.Netkit vs) = all_fit_by netkit_entry (λ _. true) vs.items
info_data_fits (Data.Vxcan v) = attribute_fits (pair_entry v)
info_data_fits (Data.Amt vs) = all_fit_by amt_entry (λ _. true) vs.items
info_data_fits (Data.BatAdv vs) = all_fit_by batadv_entry (λ _. true) vs.items
info_data_fits (Data.BareUdp vs) = all_fit_by bareudp_entry (λ _. true) vs.items
info_data_fits (Data.Dsa vs) = all_fit_by raw_entry (λ _. true) vs.items
info_data_fits (Data.Wwan vs) = all_fit_by wwan_entry (λ _. true) vs.items
info_data_fits (Data.RmNet vs) = all_fit_by rmnet_entry (λ _. true) vs.items
info_data_fits (Data.ErSpan vs) = all_fit_by gre_entry (λ _. true) vs.items
info_data_fits (Data.Ip6ErSpan vs) = all_fit_by gre6_entry (λ _. true) vs.items
info_data_fits (Data.Wireguard vs) = all_fit_by raw_entry (λ _. true) vs.items
info_data_fits (Data.Other b) = true

-- The attribute of a value: IFLA_INFO_DATA with its payload.
abbrev pub info_data_entry : InfoData → Attribute
info_data_entry d = record { kind = 2; payload = info_data_payload d }

-- The value is the variant of the kind, and so is each value inside, of its row.
abbrev pub info_data_is_row_variant : InfoKind → InfoData → Type 0
info_data_is_row_variant k (Data.Bridge vs) = k ≡ Kind.Bridge
info_data_is_row_variant k (Data.Can vs) = k ≡ Kind.Can
info_data_is_row_variant k (Data.Tun vs) = k ≡ Kind.Tun
info_data_is_row_variant k (Data.Vlan vs) = k ≡ Kind.Vlan
info_data_is_row_variant k (Data.Veth v) = (k ≡ Kind.Veth) × pair_is_row_variant v
info_data_is_row_variant k (Data.Vxlan vs) = (k ≡ Kind.Vxlan) × All vxlan_is_row_variant vs.items
info_data_is_row_variant k (Data.Bond vs) = k ≡ Kind.Bond
info_data_is_row_variant k (Data.IpVlan vs) = (k ≡ Kind.IpVlan) × All ipvlan_is_row_variant vs.items
info_data_is_row_variant k (Data.IpVtap vs) = (k ≡ Kind.IpVtap) × All ipvlan_is_row_variant vs.items
info_data_is_row_variant k (Data.MacVlan vs) = (k ≡ Kind.MacVlan) × All mac_vlan_is_row_variant vs.items
info_data_is_row_variant k (Data.MacVtap vs) = (k ≡ Kind.MacVtap) × All mac_vlan_is_row_variant vs.items
info_data_is_row_variant k (Data.GreTap vs) = (k ≡ Kind.GreTap) × All gre_is_row_variant vs.items
info_data_is_row_variant k (Data.GreTap6 vs) = (k ≡ Kind.GreTap6) × All gre6_is_row_variant vs.items
info_data_is_row_variant k (Data.GreTun vs) = (k ≡ Kind.GreTun) × All gre_is_row_variant vs.items
info_data_is_row_variant k (Data.GreTun6 vs) = (k ≡ Kind.GreTun6) × All gre6_is_row_variant vs.items
info_data_is_row_variant k (Data.Vti vs) = ((k ≡ Kind.Vti) ⊎ (k ≡ Kind.Vti6)) × All vti_is_row_variant vs.items
info_data_is_row_variant k (Data.Vrf vs) = (k ≡ Kind.Vrf) × All vrf_is_row_variant vs.items
info_data_is_row_variant k (Data.Gtp vs) = (k ≡ Kind.Gtp) × All gtp_is_row_variant vs.items
info_data_is_row_variant k (Data.Ipoib vs) = (k ≡ Kind.Ipoib) × All ipoib_is_row_variant vs.items
info_data_is_row_variant k (Data.Xfrm vs) = (k ≡ Kind.Xfrm) × All xfrm_is_row_variant vs.items
info_data_is_row_variant k (Data.MacSec vs) = (k ≡ Kind.MacSec) × All macsec_is_row_variant vs.items
info_data_is_row_variant k (Data.Hsr vs) = k ≡ Kind.Hsr
info_data_is_row_variant k (Data.Geneve vs) = (k ≡ Kind.Geneve) × All geneve_is_row_variant vs.items
info_data_is_row_variant k (Data.IpTunnel vs) = ((k ≡ Kind.IpIp) ⊎ (k ≡ Kind.Ip6Tnl) ⊎ (k ≡ Kind.SitTun)) ×
    All (ip_tunnel_is_row_variant k) vs.items
info_data_is_row_variant k (Data.Netkit vs) = (k ≡ Kind.Netkit) × All netkit_is_row_variant vs.items
info_data_is_row_variant k (Data.Vxcan v) = (k ≡ Kind.Vxcan) × pair_is_row_variant v
info_data_is_row_variant k (Data.Amt vs) = (k ≡ Kind.Amt) × All amt_is_row_variant vs.items
info_data_is_row_variant k (Data.BatAdv vs) = (k ≡ Kind.BatAdv) × All batadv_is_row_variant vs.items
info_data_is_row_variant k (Data.BareUdp vs) = (k ≡ Kind.BareUdp) × All bareudp_is_row_variant vs.items
info_data_is_row_variant k (Data.Dsa vs) = k ≡ Kind.Dsa
info_data_is_row_variant k (Data.Wwan vs) = (k ≡ Kind.Wwan) × All wwan_is_row_variant vs.items
info_data_is_row_variant k (Data.RmNet vs) = (k ≡ Kind.RmNet) × All rmnet_is_row_variant vs.items
info_data_is_row_variant k (Data.ErSpan vs) = (k ≡ Kind.ErSpan) × All gre_is_row_variant vs.items
info_data_is_row_variant k (Data.Ip6ErSpan vs) = (k ≡ Kind.Ip6ErSpan) × All gre6_is_row_variant vs.items
info_data_is_row_variant k (Data.Wireguard vs) = k ≡ Kind.Wireguard
info_data_is_row_variant k (Data.Other b) = keeps_bytes k ≡ true
