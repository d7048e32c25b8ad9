-- The numbers and names of the types of the layer below a link.
use Rattle.std.specs.Prelude.{ℕ, List, [], ◌∷◌, codes}
use Rattle.netlink_packet_core.specs.Named.{numbered_by}
use Rattle.link_message_types.specs.declared.link_layer_type.LinkLayerType.{LinkLayerType}

-- The number and the name of a type.
abbrev pub link_layer_type_row : LinkLayerType → ℕ × List ℕ
link_layer_type_row LinkLayerType.Netrom = (0, codes "netrom")
link_layer_type_row LinkLayerType.Ether = (1, codes "ether")
link_layer_type_row LinkLayerType.Eether = (2, codes "eether")
link_layer_type_row LinkLayerType.Ax25 = (3, codes "ax25")
link_layer_type_row LinkLayerType.Pronet = (4, codes "pronet")
link_layer_type_row LinkLayerType.Chaos = (5, codes "chaos")
link_layer_type_row LinkLayerType.Ieee802 = (6, codes "ieee802")
link_layer_type_row LinkLayerType.Arcnet = (7, codes "arcnet")
link_layer_type_row LinkLayerType.Appletlk = (8, codes "appletlk")
link_layer_type_row LinkLayerType.Dlci = (15, codes "dlci")
link_layer_type_row LinkLayerType.Atm = (19, codes "atm")
link_layer_type_row LinkLayerType.Metricom = (23, codes "metricom")
link_layer_type_row LinkLayerType.Ieee1394 = (24, codes "ieee1394")
link_layer_type_row LinkLayerType.Eui64 = (27, codes "eui64")
link_layer_type_row LinkLayerType.Infiniband = (32, codes "infiniband")
link_layer_type_row LinkLayerType.Slip = (256, codes "slip")
link_layer_type_row LinkLayerType.Cslip = (257, codes "cslip")
link_layer_type_row LinkLayerType.Slip6 = (258, codes "slip6")
link_layer_type_row LinkLayerType.Cslip6 = (259, codes "cslip6")
link_layer_type_row LinkLayerType.Rsrvd = (260, codes "rsrvd")
link_layer_type_row LinkLayerType.Adapt = (264, codes "adapt")
link_layer_type_row LinkLayerType.Rose = (270, codes "rose")
link_layer_type_row LinkLayerType.X25 = (271, codes "x25")
link_layer_type_row LinkLayerType.Hwx25 = (272, codes "hwx25")
link_layer_type_row LinkLayerType.Can = (280, codes "can")
link_layer_type_row LinkLayerType.Mctp = (290, codes "mctp")
link_layer_type_row LinkLayerType.Ppp = (512, codes "ppp")
link_layer_type_row LinkLayerType.Hdlc = (513, codes "hdlc")
link_layer_type_row LinkLayerType.Lapb = (516, codes "lapb")
link_layer_type_row LinkLayerType.Ddcmp = (517, codes "ddcmp")
link_layer_type_row LinkLayerType.Rawhdlc = (518, codes "rawhdlc")
link_layer_type_row LinkLayerType.Rawip = (519, codes "rawip")
link_layer_type_row LinkLayerType.Tunnel = (768, codes "tunnel")
link_layer_type_row LinkLayerType.Tunnel6 = (769, codes "tunnel6")
link_layer_type_row LinkLayerType.Frad = (770, codes "frad")
link_layer_type_row LinkLayerType.Skip = (771, codes "skip")
link_layer_type_row LinkLayerType.Loopback = (772, codes "loopback")
link_layer_type_row LinkLayerType.Localtlk = (773, codes "localtlk")
link_layer_type_row LinkLayerType.Fddi = (774, codes "fddi")
link_layer_type_row LinkLayerType.Bif = (775, codes "bif")
link_layer_type_row LinkLayerType.Sit = (776, codes "sit")
link_layer_type_row LinkLayerType.Ipddp = (777, codes "ipddp")
link_layer_type_row LinkLayerType.Ipgre = (778, codes "ipgre")
link_layer_type_row LinkLayerType.Pimreg = (779, codes "pimreg")
link_layer_type_row LinkLayerType.Hippi = (780, codes "hippi")
link_layer_type_row LinkLayerType.Ash = (781, codes "ash")
link_layer_type_row LinkLayerType.Econet = (782, codes "econet")
link_layer_type_row LinkLayerType.Irda = (783, codes "irda")
link_layer_type_row LinkLayerType.Fcpp = (784, codes "fcpp")
link_layer_type_row LinkLayerType.Fcal = (785, codes "fcal")
link_layer_type_row LinkLayerType.Fcpl = (786, codes "fcpl")
link_layer_type_row LinkLayerType.Fcfabric = (787, codes "fcfabric")
link_layer_type_row LinkLayerType.Ieee802Tr = (800, codes "ieee802tr")
link_layer_type_row LinkLayerType.Ieee80211 = (801, codes "ieee80211")
link_layer_type_row LinkLayerType.Ieee80211Prism = (802, codes "ieee80211prism")
link_layer_type_row LinkLayerType.Ieee80211Radiotap = (803, codes "ieee80211radiotap")
link_layer_type_row LinkLayerType.Ieee802154 = (804, codes "ieee802154")
link_layer_type_row LinkLayerType.Ieee802154Monitor = (805, codes "ieee802154monitor")
link_layer_type_row LinkLayerType.Phonet = (820, codes "phonet")
link_layer_type_row LinkLayerType.PhonetPipe = (821, codes "phonetpipe")
link_layer_type_row LinkLayerType.Caif = (822, codes "caif")
link_layer_type_row LinkLayerType.Ip6gre = (823, codes "ip6gre")
link_layer_type_row LinkLayerType.Netlink = (824, codes "netlink")
link_layer_type_row LinkLayerType.Sixlowpan = (825, codes "sixlowpan")
link_layer_type_row LinkLayerType.Vsockmon = (826, codes "vsockmon")
link_layer_type_row LinkLayerType.None = (65534, codes "none")
link_layer_type_row LinkLayerType.Void = (65535, codes "void")

-- The types in the order of their numbers.
abbrev pub listed_link_layer_types : List LinkLayerType
listed_link_layer_types =
    LinkLayerType.Netrom ∷
    LinkLayerType.Ether ∷
    LinkLayerType.Eether ∷
    LinkLayerType.Ax25 ∷
    LinkLayerType.Pronet ∷
    LinkLayerType.Chaos ∷
    LinkLayerType.Ieee802 ∷
    LinkLayerType.Arcnet ∷
    LinkLayerType.Appletlk ∷
    LinkLayerType.Dlci ∷
    LinkLayerType.Atm ∷
    LinkLayerType.Metricom ∷
    LinkLayerType.Ieee1394 ∷
    LinkLayerType.Eui64 ∷
    LinkLayerType.Infiniband ∷
    LinkLayerType.Slip ∷
    LinkLayerType.Cslip ∷
    LinkLayerType.Slip6 ∷
    LinkLayerType.Cslip6 ∷
    LinkLayerType.Rsrvd ∷
    LinkLayerType.Adapt ∷
    LinkLayerType.Rose ∷
    LinkLayerType.X25 ∷
    LinkLayerType.Hwx25 ∷
    LinkLayerType.Can ∷
    LinkLayerType.Mctp ∷
    LinkLayerType.Ppp ∷
    LinkLayerType.Hdlc ∷
    LinkLayerType.Lapb ∷
    LinkLayerType.Ddcmp ∷
    LinkLayerType.Rawhdlc ∷
    LinkLayerType.Rawip ∷
    LinkLayerType.Tunnel ∷
    LinkLayerType.Tunnel6 ∷
    LinkLayerType.Frad ∷
    LinkLayerType.Skip ∷
    LinkLayerType.Loopback ∷
    LinkLayerType.Localtlk ∷
    LinkLayerType.Fddi ∷
    LinkLayerType.Bif ∷
    LinkLayerType.Sit ∷
    LinkLayerType.Ipddp ∷
    LinkLayerType.Ipgre ∷
    LinkLayerType.Pimreg ∷
    LinkLayerType.Hippi ∷
    LinkLayerType.Ash ∷
    LinkLayerType.Econet ∷
    LinkLayerType.Irda ∷
    LinkLayerType.Fcpp ∷
    LinkLayerType.Fcal ∷
    LinkLayerType.Fcpl ∷
    LinkLayerType.Fcfabric ∷
    LinkLayerType.Ieee802Tr ∷
    LinkLayerType.Ieee80211 ∷
    LinkLayerType.Ieee80211Prism ∷
    LinkLayerType.Ieee80211Radiotap ∷
    LinkLayerType.Ieee802154 ∷
    LinkLayerType.Ieee802154Monitor ∷
    LinkLayerType.Phonet ∷
    LinkLayerType.PhonetPipe ∷
    LinkLayerType.Caif ∷
    LinkLayerType.Ip6gre ∷
    LinkLayerType.Netlink ∷
    LinkLayerType.Sixlowpan ∷
    LinkLayerType.Vsockmon ∷
    LinkLayerType.None ∷
    LinkLayerType.Void ∷
    []

-- The number of a type.
abbrev pub link_layer_type_number : LinkLayerType → ℕ
link_layer_type_number v = (link_layer_type_row v).0

-- The type of a number; every number that isn't listed is void.
unfoldable pub link_layer_type_of : ℕ → LinkLayerType
link_layer_type_of n =
    numbered_by link_layer_type_number listed_link_layer_types (λ _. LinkLayerType.Void) n

-- The display of a type.
abbrev pub link_layer_type_text : LinkLayerType → List ℕ
link_layer_type_text v = (link_layer_type_row v).1
