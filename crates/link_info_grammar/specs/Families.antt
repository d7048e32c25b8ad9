-- The data of links and of ports of each kind: IFLA_INFO_DATA and IFLA_INFO_SLAVE_DATA (if_link.h). A table has one row
-- in a line, in the order of its header: the kind, its payload, and the kernel's name of the kind, which `tools/rows.py
-- --check` compares with the name that linkshow prints. A kind without a row is a raw attribute.
use Rattle.std.specs.Prelude.{ℕ, List, [], ◌∷◌, codes}
use Rattle.attribute_tables_grammar.specs.Shapes.{Shape, exact, either, at_most, boolean_if_nonzero, boolean_if_one}
use Rattle.attribute_tables_grammar.specs.Shapes.{boolean_of_four}
use Rattle.attribute_tables_grammar.specs.Shapes.{presence, text}
use Rattle.attribute_tables_grammar.specs.Lists.{any, first_only}
use Rattle.attribute_tables_grammar.specs.Tables.{Payload, Payload.peer, Payload.list, Table, Table.end}
use Rattle.attribute_tables_grammar.specs.Tables.{Names, Names.others, Names.name}
use Rattle.attribute_tables_grammar.specs.Rows.{◌↪◌, ◌↠◌, ◌⸴◌}

-- ---- if_link.h

-- IFLA_MACVLAN_*, up to the list of source addresses
abbrev pub macvlan_before_addresses : Table → Table
macvlan_before_addresses t =
    1 ↪ exact 4 ⸴  -- IFLA_MACVLAN_MODE
    2 ↪ exact 2 ⸴  -- IFLA_MACVLAN_FLAGS
    3 ↪ exact 4 ⸴  -- IFLA_MACVLAN_MACADDR_MODE
    4 ↪ exact 6 ⸴  -- IFLA_MACVLAN_MACADDR
    t

-- IFLA_MACVLAN_*, after the list of source addresses
abbrev pub macvlan_after_addresses : Table
macvlan_after_addresses =
    6 ↪ exact 4 ⸴  -- IFLA_MACVLAN_MACADDR_COUNT
    7 ↪ exact 4 ⸴  -- IFLA_MACVLAN_BC_QUEUE_LEN
    8 ↪ exact 4 ⸴  -- IFLA_MACVLAN_BC_QUEUE_LEN_USED
    9 ↪ exact 4 ⸴  -- IFLA_MACVLAN_BC_CUTOFF
    end

-- a list of source addresses, which holds no list of source addresses itself
abbrev pub macvlan_address : Table
macvlan_address = macvlan_before_addresses macvlan_after_addresses

-- macvlan, macvtap: IFLA_MACVLAN_*
abbrev pub macvlan : Table
macvlan =
    macvlan_before_addresses (
    5 ↠ list any macvlan_address ⸴  -- IFLA_MACVLAN_MACADDR_DATA
    macvlan_after_addresses)

-- vrf: IFLA_VRF_*; as a port kind IFLA_VRF_PORT_*, with kind 1 as IFLA_VRF_PORT_TABLE
abbrev pub vrf : Table
vrf =
    1 ↪ exact 4 ⸴  -- IFLA_VRF_TABLE
    end

-- macsec: IFLA_MACSEC_*
abbrev pub macsec : Table
macsec =
    1 ↪ exact 8 ⸴  -- IFLA_MACSEC_SCI
    2 ↪ exact 2 ⸴  -- IFLA_MACSEC_PORT
    3 ↪ exact 1 ⸴  -- IFLA_MACSEC_ICV_LEN
    4 ↪ exact 8 ⸴  -- IFLA_MACSEC_CIPHER_SUITE
    5 ↪ exact 4 ⸴  -- IFLA_MACSEC_WINDOW
    6 ↪ exact 1 ⸴  -- IFLA_MACSEC_ENCODING_SA
    7 ↪ exact 1 ⸴  -- IFLA_MACSEC_ENCRYPT
    8 ↪ exact 1 ⸴  -- IFLA_MACSEC_PROTECT
    9 ↪ exact 1 ⸴  -- IFLA_MACSEC_INC_SCI
    10 ↪ exact 1 ⸴  -- IFLA_MACSEC_ES
    11 ↪ exact 1 ⸴  -- IFLA_MACSEC_SCB
    12 ↪ exact 1 ⸴  -- IFLA_MACSEC_REPLAY_PROTECT
    13 ↪ exact 1 ⸴  -- IFLA_MACSEC_VALIDATION
    15 ↪ exact 1 ⸴  -- IFLA_MACSEC_OFFLOAD
    end

-- xfrm: IFLA_XFRM_*
abbrev pub xfrm : Table
xfrm =
    1 ↪ exact 4 ⸴  -- IFLA_XFRM_LINK
    2 ↪ exact 4 ⸴  -- IFLA_XFRM_IF_ID
    end

-- ipvlan, ipvtap: IFLA_IPVLAN_*
abbrev pub ipvlan : Table
ipvlan =
    1 ↪ exact 2 ⸴  -- IFLA_IPVLAN_MODE
    2 ↪ exact 2 ⸴  -- IFLA_IPVLAN_FLAGS
    end

-- netkit: IFLA_NETKIT_*
abbrev pub netkit : Table
netkit =
    1 ↠ peer ⸴  -- IFLA_NETKIT_PEER_INFO
    2 ↪ boolean_if_nonzero ⸴  -- IFLA_NETKIT_PRIMARY
    3 ↪ exact 4 ⸴  -- IFLA_NETKIT_POLICY
    4 ↪ exact 4 ⸴  -- IFLA_NETKIT_PEER_POLICY
    5 ↪ exact 4 ⸴  -- IFLA_NETKIT_MODE
    6 ↪ boolean_of_four ⸴  -- IFLA_NETKIT_SCRUB
    7 ↪ boolean_of_four ⸴  -- IFLA_NETKIT_PEER_SCRUB
    8 ↪ exact 2 ⸴  -- IFLA_NETKIT_HEADROOM
    9 ↪ exact 2 ⸴  -- IFLA_NETKIT_TAILROOM
    end

-- vxlan: IFLA_VXLAN_*
abbrev pub vxlan : Table
vxlan =
    1 ↪ exact 4 ⸴  -- IFLA_VXLAN_ID
    2 ↪ exact 4 ⸴  -- IFLA_VXLAN_GROUP
    3 ↪ exact 4 ⸴  -- IFLA_VXLAN_LINK
    4 ↪ exact 4 ⸴  -- IFLA_VXLAN_LOCAL
    5 ↪ exact 1 ⸴  -- IFLA_VXLAN_TTL
    6 ↪ exact 1 ⸴  -- IFLA_VXLAN_TOS
    7 ↪ boolean_if_nonzero ⸴  -- IFLA_VXLAN_LEARNING
    8 ↪ exact 4 ⸴  -- IFLA_VXLAN_AGEING
    9 ↪ exact 4 ⸴  -- IFLA_VXLAN_LIMIT
    10 ↪ exact 4 ⸴  -- IFLA_VXLAN_PORT_RANGE
    11 ↪ boolean_if_nonzero ⸴  -- IFLA_VXLAN_PROXY
    12 ↪ boolean_if_nonzero ⸴  -- IFLA_VXLAN_RSC
    13 ↪ boolean_if_nonzero ⸴  -- IFLA_VXLAN_L2MISS
    14 ↪ boolean_if_nonzero ⸴  -- IFLA_VXLAN_L3MISS
    15 ↪ exact 2 ⸴  -- IFLA_VXLAN_PORT
    16 ↪ exact 16 ⸴  -- IFLA_VXLAN_GROUP6
    17 ↪ exact 16 ⸴  -- IFLA_VXLAN_LOCAL6
    18 ↪ boolean_if_nonzero ⸴  -- IFLA_VXLAN_UDP_CSUM
    19 ↪ boolean_if_nonzero ⸴  -- IFLA_VXLAN_UDP_ZERO_CSUM6_TX
    20 ↪ boolean_if_nonzero ⸴  -- IFLA_VXLAN_UDP_ZERO_CSUM6_RX
    21 ↪ boolean_if_nonzero ⸴  -- IFLA_VXLAN_REMCSUM_TX
    22 ↪ boolean_if_nonzero ⸴  -- IFLA_VXLAN_REMCSUM_RX
    23 ↪ presence ⸴  -- IFLA_VXLAN_GBP
    24 ↪ presence ⸴  -- IFLA_VXLAN_REMCSUM_NOPARTIAL
    25 ↪ boolean_if_nonzero ⸴  -- IFLA_VXLAN_COLLECT_METADATA
    26 ↪ exact 4 ⸴  -- IFLA_VXLAN_LABEL
    27 ↪ presence ⸴  -- IFLA_VXLAN_GPE
    28 ↪ at_most 1 ⸴  -- IFLA_VXLAN_TTL_INHERIT
    29 ↪ exact 1 ⸴  -- IFLA_VXLAN_DF
    30 ↪ boolean_if_nonzero ⸴  -- IFLA_VXLAN_VNIFILTER
    31 ↪ boolean_if_nonzero ⸴  -- IFLA_VXLAN_LOCALBYPASS
    32 ↪ exact 4 ⸴  -- IFLA_VXLAN_LABEL_POLICY
    33 ↪ exact 8 ⸴  -- IFLA_VXLAN_RESERVED_BITS
    34 ↪ boolean_if_nonzero ⸴  -- IFLA_VXLAN_MC_ROUTE
    end

-- geneve: IFLA_GENEVE_*
abbrev pub geneve : Table
geneve =
    1 ↪ exact 4 ⸴  -- IFLA_GENEVE_ID
    2 ↪ exact 4 ⸴  -- IFLA_GENEVE_REMOTE
    3 ↪ exact 1 ⸴  -- IFLA_GENEVE_TTL
    4 ↪ exact 1 ⸴  -- IFLA_GENEVE_TOS
    5 ↪ exact 2 ⸴  -- IFLA_GENEVE_PORT
    6 ↪ presence ⸴  -- IFLA_GENEVE_COLLECT_METADATA
    7 ↪ exact 16 ⸴  -- IFLA_GENEVE_REMOTE6
    8 ↪ boolean_if_nonzero ⸴  -- IFLA_GENEVE_UDP_CSUM
    9 ↪ boolean_if_nonzero ⸴  -- IFLA_GENEVE_UDP_ZERO_CSUM6_TX
    10 ↪ boolean_if_nonzero ⸴  -- IFLA_GENEVE_UDP_ZERO_CSUM6_RX
    11 ↪ exact 4 ⸴  -- IFLA_GENEVE_LABEL
    12 ↪ boolean_if_nonzero ⸴  -- IFLA_GENEVE_TTL_INHERIT
    13 ↪ exact 1 ⸴  -- IFLA_GENEVE_DF
    14 ↪ presence ⸴  -- IFLA_GENEVE_INNER_PROTO_INHERIT
    17 ↪ exact 4 ⸴  -- IFLA_GENEVE_LOCAL
    18 ↪ exact 16 ⸴  -- IFLA_GENEVE_LOCAL6
    end

-- bareudp: IFLA_BAREUDP_*
abbrev pub bareudp : Table
bareudp =
    1 ↪ exact 2 ⸴  -- IFLA_BAREUDP_PORT
    2 ↪ exact 2 ⸴  -- IFLA_BAREUDP_ETHERTYPE
    3 ↪ exact 2 ⸴  -- IFLA_BAREUDP_SRCPORT_MIN
    4 ↪ presence ⸴  -- IFLA_BAREUDP_MULTIPROTO_MODE
    end

-- gtp: IFLA_GTP_*
abbrev pub gtp : Table
gtp =
    1 ↪ exact 4 ⸴  -- IFLA_GTP_FD0
    2 ↪ exact 4 ⸴  -- IFLA_GTP_FD1
    3 ↪ exact 4 ⸴  -- IFLA_GTP_PDP_HASHSIZE
    4 ↪ exact 4 ⸴  -- IFLA_GTP_ROLE
    5 ↪ boolean_if_nonzero ⸴  -- IFLA_GTP_CREATE_SOCKETS
    6 ↪ exact 1 ⸴  -- IFLA_GTP_RESTART_COUNT
    7 ↪ exact 4 ⸴  -- IFLA_GTP_LOCAL
    8 ↪ exact 16 ⸴  -- IFLA_GTP_LOCAL6
    end

-- ipoib: IFLA_IPOIB_*
abbrev pub ipoib : Table
ipoib =
    1 ↪ exact 2 ⸴  -- IFLA_IPOIB_PKEY
    2 ↪ exact 2 ⸴  -- IFLA_IPOIB_MODE
    3 ↪ exact 2 ⸴  -- IFLA_IPOIB_UMCAST
    end

-- rmnet: IFLA_RMNET_*; kind 2 holds flags and their mask
abbrev pub rmnet : Table
rmnet =
    1 ↪ exact 2 ⸴  -- IFLA_RMNET_MUX_ID
    2 ↪ exact 8 ⸴  -- IFLA_RMNET_FLAGS
    end

-- ---- if_tunnel.h

-- ipip, sit, ip6tnl: IFLA_IPTUN_*; the kind of the link determines the shape of the flags
abbrev pub ip_tunnel : Shape → Table
ip_tunnel flags =
    1 ↪ exact 4 ⸴  -- IFLA_IPTUN_LINK
    2 ↪ either 4 16 ⸴  -- IFLA_IPTUN_LOCAL
    3 ↪ either 4 16 ⸴  -- IFLA_IPTUN_REMOTE
    4 ↪ exact 1 ⸴  -- IFLA_IPTUN_TTL
    5 ↪ exact 1 ⸴  -- IFLA_IPTUN_TOS
    6 ↪ exact 1 ⸴  -- IFLA_IPTUN_ENCAP_LIMIT
    7 ↪ exact 4 ⸴  -- IFLA_IPTUN_FLOWINFO
    8 ↪ flags ⸴  -- IFLA_IPTUN_FLAGS
    9 ↪ exact 1 ⸴  -- IFLA_IPTUN_PROTO
    10 ↪ boolean_if_nonzero ⸴  -- IFLA_IPTUN_PMTUDISC
    11 ↪ exact 16 ⸴  -- IFLA_IPTUN_6RD_PREFIX
    12 ↪ exact 4 ⸴  -- IFLA_IPTUN_6RD_RELAY_PREFIX
    13 ↪ exact 2 ⸴  -- IFLA_IPTUN_6RD_PREFIXLEN
    14 ↪ exact 2 ⸴  -- IFLA_IPTUN_6RD_RELAY_PREFIXLEN
    15 ↪ exact 2 ⸴  -- IFLA_IPTUN_ENCAP_TYPE
    16 ↪ exact 2 ⸴  -- IFLA_IPTUN_ENCAP_FLAGS
    17 ↪ exact 2 ⸴  -- IFLA_IPTUN_ENCAP_SPORT
    18 ↪ exact 2 ⸴  -- IFLA_IPTUN_ENCAP_DPORT
    19 ↪ presence ⸴  -- IFLA_IPTUN_COLLECT_METADATA
    20 ↪ exact 4 ⸴  -- IFLA_IPTUN_FWMARK
    end

-- IFLA_GRE_*, the kinds 1 to 9, by the size of the outer protocol's addresses
abbrev pub gre_before_encap : ℕ → Table → Table
gre_before_encap size more =
    1 ↪ exact 4 ⸴  -- IFLA_GRE_LINK
    2 ↪ exact 2 ⸴  -- IFLA_GRE_IFLAGS
    3 ↪ exact 2 ⸴  -- IFLA_GRE_OFLAGS
    4 ↪ exact 4 ⸴  -- IFLA_GRE_IKEY
    5 ↪ exact 4 ⸴  -- IFLA_GRE_OKEY
    6 ↪ exact size ⸴  -- IFLA_GRE_LOCAL
    7 ↪ exact size ⸴  -- IFLA_GRE_REMOTE
    8 ↪ exact 1 ⸴  -- IFLA_GRE_TTL
    9 ↪ exact 1 ⸴  -- IFLA_GRE_TOS
    more

-- IFLA_GRE_*, after the kinds that depend on the outer protocol
abbrev pub gre_encap : Table
gre_encap =
    14 ↪ exact 2 ⸴  -- IFLA_GRE_ENCAP_TYPE
    15 ↪ exact 2 ⸴  -- IFLA_GRE_ENCAP_FLAGS
    16 ↪ exact 2 ⸴  -- IFLA_GRE_ENCAP_SPORT
    17 ↪ exact 2 ⸴  -- IFLA_GRE_ENCAP_DPORT
    18 ↪ presence ⸴  -- IFLA_GRE_COLLECT_METADATA
    20 ↪ exact 4 ⸴  -- IFLA_GRE_FWMARK
    21 ↪ exact 4 ⸴  -- IFLA_GRE_ERSPAN_INDEX
    22 ↪ exact 1 ⸴  -- IFLA_GRE_ERSPAN_VER
    23 ↪ exact 1 ⸴  -- IFLA_GRE_ERSPAN_DIR
    24 ↪ exact 2 ⸴  -- IFLA_GRE_ERSPAN_HWID
    end

-- gre, gretap, erspan: IFLA_GRE_* over IPv4; path MTU discovery is on only for the byte 1
abbrev pub gre : Table
gre =
    gre_before_encap 4 (
    10 ↪ boolean_if_one ⸴  -- IFLA_GRE_PMTUDISC
    gre_encap)

-- ip6gre, ip6gretap, ip6erspan: IFLA_GRE_* over IPv6
abbrev pub gre6 : Table
gre6 =
    gre_before_encap 16 (
    11 ↪ exact 1 ⸴  -- IFLA_GRE_ENCAP_LIMIT
    12 ↪ exact 4 ⸴  -- IFLA_GRE_FLOWINFO
    gre_encap)

-- vti, vti6: IFLA_VTI_*
abbrev pub vti : Table
vti =
    1 ↪ exact 4 ⸴  -- IFLA_VTI_LINK
    2 ↪ exact 4 ⸴  -- IFLA_VTI_IKEY
    3 ↪ exact 4 ⸴  -- IFLA_VTI_OKEY
    4 ↪ either 4 16 ⸴  -- IFLA_VTI_LOCAL
    5 ↪ either 4 16 ⸴  -- IFLA_VTI_REMOTE
    6 ↪ exact 4 ⸴  -- IFLA_VTI_FWMARK
    end

-- ---- headers of one kind: amt.h, batman_adv.h, veth.h, wwan.h

-- amt: IFLA_AMT_*
abbrev pub amt : Table
amt =
    1 ↪ exact 4 ⸴  -- IFLA_AMT_MODE
    2 ↪ exact 2 ⸴  -- IFLA_AMT_RELAY_PORT
    3 ↪ exact 2 ⸴  -- IFLA_AMT_GATEWAY_PORT
    4 ↪ exact 4 ⸴  -- IFLA_AMT_LINK
    5 ↪ either 4 16 ⸴  -- IFLA_AMT_LOCAL_IP
    6 ↪ either 4 16 ⸴  -- IFLA_AMT_REMOTE_IP
    7 ↪ either 4 16 ⸴  -- IFLA_AMT_DISCOVERY_IP
    8 ↪ exact 4 ⸴  -- IFLA_AMT_MAX_TUNNELS
    end

-- batadv: IFLA_BATADV_*
abbrev pub batadv : Table
batadv =
    1 ↪ text ⸴  -- IFLA_BATADV_ALGO_NAME
    end

-- veth, vxcan: VETH_INFO_* and VXCAN_INFO_* (can/vxcan.h)
abbrev pub pair : Table
pair =
    1 ↠ peer ⸴  -- VETH_INFO_PEER, VXCAN_INFO_PEER
    end

-- wwan: IFLA_WWAN_*
abbrev pub wwan : Table
wwan =
    1 ↪ exact 4 ⸴  -- IFLA_WWAN_LINK_ID
    end

-- ---- other kinds

-- bridge, bond and others: a list of raw attributes, none of whose kinds has a row
abbrev pub untyped : Table
untyped = end

-- ---- kinds and port kinds by name

-- several names with one payload, followed by the names in ns
abbrev pub each_of : Payload → List (List ℕ) → Names → Names
each_of s [] ns = ns
each_of s (n ∷ names) ns = name n s (each_of s names ns)

-- the data of links by the name of their kind; for any other name they are raw bytes
abbrev pub kinds : Names
kinds =
    each_of (list any untyped)
    (codes "bridge" ∷ codes "tun" ∷ codes "vlan" ∷ codes "bond" ∷ codes "wireguard" ∷ codes "hsr" ∷ codes "can" ∷
    codes "dsa" ∷ [])
    (each_of (list any ipvlan) (codes "ipvlan" ∷ codes "ipvtap" ∷ [])
    (each_of (list any vti) (codes "vti" ∷ codes "vti6" ∷ [])
    (name (codes "vrf") (list any vrf)
    (name (codes "ipoib") (list any ipoib)
    (name (codes "xfrm") (list any xfrm)
    (name (codes "batadv") (list any batadv)
    (name (codes "bareudp") (list any bareudp)
    (name (codes "wwan") (list any wwan)
    (name (codes "rmnet") (list any rmnet)
    (name (codes "amt") (list any amt)
    (name (codes "geneve") (list any geneve)
    (name (codes "gtp") (list any gtp)
    (name (codes "vxlan") (list any vxlan)
    (each_of (list any gre) (codes "gre" ∷ codes "gretap" ∷ codes "erspan" ∷ [])
    (each_of (list any gre6) (codes "ip6gre" ∷ codes "ip6gretap" ∷ codes "ip6erspan" ∷ [])
    (each_of (list any (ip_tunnel (exact 2))) (codes "ipip" ∷ codes "sit" ∷ [])
    (name (codes "ip6tnl") (list any (ip_tunnel (exact 4)))
    (name (codes "macsec") (list any macsec)
    (each_of (list any macvlan) (codes "macvlan" ∷ codes "macvtap" ∷ [])
    (name (codes "netkit") (list any netkit)
    (each_of (list first_only pair) (codes "veth" ∷ codes "vxcan" ∷ [])
    others)))))))))))))))))))))

-- the data of ports by the name of their kind; for any other name they are raw bytes
abbrev pub port_kinds : Names
port_kinds =
    each_of (list any untyped) (codes "bond" ∷ codes "bridge" ∷ codes "team" ∷ [])
    (name (codes "vrf") (list any vrf) others)

-- The names of link kinds that have a variant of their own in `InfoKind`.
abbrev pub kind_names : List (List ℕ)
kind_names =
    codes "dummy" ∷ codes "ifb" ∷ codes "bridge" ∷ codes "tun" ∷ codes "nlmon" ∷ codes "vlan" ∷ codes "veth" ∷
    codes "vxlan" ∷ codes "bond" ∷
    codes "ipvlan" ∷ codes "ipvtap" ∷ codes "macvlan" ∷ codes "macvtap" ∷ codes "gretap" ∷ codes "ip6gretap" ∷
    codes "ipip" ∷ codes "ip6tnl" ∷
    codes "sit" ∷ codes "gre" ∷ codes "ip6gre" ∷ codes "vti" ∷ codes "vti6" ∷ codes "vrf" ∷ codes "gtp" ∷
    codes "ipoib" ∷ codes "wireguard" ∷
    codes "xfrm" ∷ codes "macsec" ∷ codes "hsr" ∷ codes "geneve" ∷ codes "netkit" ∷ codes "vcan" ∷ codes "vxcan" ∷
    codes "amt" ∷ codes "batadv" ∷
    codes "bareudp" ∷ codes "netdevsim" ∷ codes "virt_wifi" ∷ codes "wwan" ∷ codes "can" ∷ codes "dsa" ∷ codes "team" ∷
    codes "erspan" ∷
    codes "ip6erspan" ∷ codes "pfcp" ∷ codes "rmnet" ∷ []

-- The names of port kinds that have a variant of their own in `InfoPortKind`.
abbrev pub port_kind_names : List (List ℕ)
port_kind_names = codes "bond" ∷ codes "bridge" ∷ codes "vrf" ∷ codes "team" ∷ []
