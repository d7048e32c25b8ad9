-- The tables of numbers and of bits with their names, as the constants in code define them.
use Rattle.std.specs.Prelude.{◌/◌, ◌%◌, List, [], ◌∷◌, get_or, map}
use Rattle.link_lines_values.specs.declared.number_texts.TheConstants.{PLAIN_TEXTS, AMT_MODE_TEXTS, GENEVE_DF_TEXTS}
use Rattle.link_lines_values.specs.declared.number_texts.TheConstants.{VXLAN_DF_TEXTS, GTP_ROLE_TEXTS}
use Rattle.link_lines_values.specs.declared.number_texts.TheConstants.{TUNNEL_ENCAP_TYPE_TEXTS, GRE_ENCAP_TYPE_TEXTS}
use Rattle.link_lines_values.specs.declared.number_texts.TheConstants.{ER_SPAN_DIR_TEXTS, BOND_MODE_TEXTS}
use Rattle.link_lines_values.specs.declared.number_texts.TheConstants.{IP_VLAN_MODE_TEXTS, MAC_VLAN_MODE_TEXTS}
use Rattle.link_lines_values.specs.declared.number_texts.TheConstants.{NETKIT_MODE_TEXTS, NETKIT_POLICY_TEXTS}
use Rattle.link_lines_values.specs.declared.number_texts.TheConstants.{NETKIT_SCRUB_TEXTS, STATE_TEXTS, LINK_MODE_TEXTS}
use Rattle.link_lines_values.specs.declared.number_texts.TheConstants.{IN6_ADDR_GEN_MODE_TEXTS, MCTP_PHYS_BINDING_TEXTS}
use Rattle.link_lines_values.specs.declared.number_texts.TheConstants.{ETHERNET_PROTOCOL_TEXTS, ADDRESS_FAMILY_TEXTS}
use Rattle.link_lines_values.specs.declared.number_texts.TheConstants.{LINK_LAYER_TYPE_TEXTS, MESSAGE_TYPE_TEXTS}
use Rattle.link_lines_values.specs.declared.number_texts.TheConstants.{ETHER_TYPE_TEXTS}
use Rattle.link_lines_values.specs.declared.flag_names.TheConstants.{LINK_FLAGS_TEXTS, LINK_EXTENT_MASK_TEXTS}
use Rattle.link_lines_values.specs.declared.flag_names.TheConstants.{MESSAGE_FLAGS_TEXTS, MESSAGE_GET_FLAGS_TEXTS}
use Rattle.link_lines_values.specs.declared.flag_names.TheConstants.{MESSAGE_CREATE_FLAGS_TEXTS}
use Rattle.link_lines_values.specs.declared.flag_names.TheConstants.{MESSAGE_DELETE_FLAGS_TEXTS}
use Rattle.link_lines_values.specs.declared.flag_names.TheConstants.{MESSAGE_ACK_FLAGS_TEXTS}
use Rattle.link_lines_values.specs.declared.route_texts.TheConstants.{FAMILY_TEXTS, RT_SCOPE_TEXTS, RT_TABLE_TEXTS}
use Rattle.link_lines_values.specs.declared.route_texts.TheConstants.{RT_PROTOCOL_TEXTS, RTN_TYPE_TEXTS}
use Rattle.link_lines_values.specs.declared.route_texts.TheConstants.{RT_DEL_REASON_TEXTS, ROUTER_PREF_TEXTS}
use Rattle.link_lines_values.specs.declared.route_texts.TheConstants.{IFA_PROTO_TEXTS, IP_PROTO_TEXTS, ENCAP_TYPE_TEXTS}
use Rattle.link_lines_values.specs.declared.route_texts.TheConstants.{SEG6_LOCAL_ACTION_TEXTS, SEG6_MODE_TEXTS, IOAM6_MODE_TEXTS}
use Rattle.link_lines_values.specs.declared.route_texts.TheConstants.{IFA_FLAGS_TEXTS, NEXTHOP_FLAGS_TEXTS}
use Rattle.link_lines_values.specs.declared.route_texts.TheConstants.{ROUTE_FLAGS_TEXTS, RTAX_LOCK_TEXTS}
use Rattle.link_lines_values.specs.declared.route_texts.TheConstants.{RTAX_FEATURES_TEXTS, SEG6_FLAVORS_TEXTS, SEG6_FLAGS_TEXTS}
use Rattle.link_lines_values.specs.declared.neighbour_texts.TheConstants.{FR_ACT_TEXTS, TC_PARENT_TEXTS}
use Rattle.link_lines_values.specs.declared.neighbour_texts.TheConstants.{NETCONF_IFINDEX_TEXTS, NEXTHOP_GRP_TYPE_TEXTS}
use Rattle.link_lines_values.specs.declared.neighbour_texts.TheConstants.{NEIGH_STATE_TEXTS, NEIGH_FLAGS_TEXTS}
use Rattle.link_lines_values.specs.declared.neighbour_texts.TheConstants.{NEIGH_FLAGS_EXT_TEXTS, FDB_NOTIFY_TEXTS}
use Rattle.link_lines_values.specs.declared.neighbour_texts.TheConstants.{FIB_RULE_FLAGS_TEXTS, TCA_DUMP_FLAGS_TEXTS}
use Rattle.link_lines_values.specs.declared.neighbour_texts.TheConstants.{TCA_ROOT_FLAGS_TEXTS, TCA_ACT_FLAGS_TEXTS}
use Rattle.link_lines_values.specs.declared.neighbour_texts.TheConstants.{TCA_ACT_HW_STATS_TEXTS, STATS_FILTER_TEXTS}
use Rattle.link_lines_values.specs.declared.neighbour_texts.TheConstants.{NHA_OP_FLAGS_TEXTS, TUNNEL_MSG_FLAGS_TEXTS}
use Rattle.link_lines_values.specs.declared.bridge_texts.TheConstants.{MCAST_MODE_TEXTS, MDB_ROUTER_TYPE_TEXTS}
use Rattle.link_lines_values.specs.declared.bridge_texts.TheConstants.{MDB_STATE_TEXTS, BR_STATE_TEXTS}
use Rattle.link_lines_values.specs.declared.bridge_texts.TheConstants.{BR_STP_MODE_TEXTS, BRIDGE_MODE_TEXTS}
use Rattle.link_lines_values.specs.declared.bridge_texts.TheConstants.{HSR_PROTOCOL_TEXTS, CAN_STATE_TEXTS}
use Rattle.link_lines_values.specs.declared.bridge_texts.TheConstants.{TUN_TYPE_TEXTS, NETKIT_PAIRING_TEXTS}
use Rattle.link_lines_values.specs.declared.bridge_texts.TheConstants.{PORT_REQUEST_TEXTS, VLANDB_DUMP_FLAGS_TEXTS}
use Rattle.link_lines_values.specs.declared.bridge_texts.TheConstants.{MDB_FLAGS_TEXTS, BRIDGE_FLAGS_TEXTS}
use Rattle.link_lines_values.specs.declared.bridge_texts.TheConstants.{BRIDGE_VLAN_FLAGS_TEXTS, VLAN_FLAGS_TEXTS}
use Rattle.link_lines_values.specs.declared.bridge_texts.TheConstants.{BR_BOOLOPT_TEXTS, CAN_CTRLMODE_FLAGS_TEXTS}
use Rattle.link_lines_values.specs.declared.error_texts.TheConstants.{ERROR_TEXTS}
use Rattle.link_lines_values.specs.declared.traffic_texts.TheConstants.{TC_ACTION_TEXTS, MIRRED_ACTION_TEXTS}
use Rattle.link_lines_values.specs.declared.traffic_texts.TheConstants.{LIFETIME_TEXTS, CLS_FLAGS_TEXTS}
use Rattle.link_lines_values.specs.declared.traffic_texts.TheConstants.{U32_FLAGS_TEXTS, BPF_FLAGS_TEXTS, CT_STATE_TEXTS}
use Rattle.link_lines_values.specs.declared.number_tables.Numbers.{Numbers}
use Rattle.link_lines_values.specs.Names.{Text, texts_of}

-- Names of numbers in attributes of links: each table's, in the order of their indexes.
abbrev pub link_texts : List (List Text)
link_texts =
    map (λ b. texts_of (λ n. n.now) b.now)
    (PLAIN_TEXTS ∷ AMT_MODE_TEXTS ∷ GENEVE_DF_TEXTS ∷ VXLAN_DF_TEXTS ∷ GTP_ROLE_TEXTS ∷ TUNNEL_ENCAP_TYPE_TEXTS ∷
    GRE_ENCAP_TYPE_TEXTS ∷ ER_SPAN_DIR_TEXTS ∷ BOND_MODE_TEXTS ∷ IP_VLAN_MODE_TEXTS ∷ MAC_VLAN_MODE_TEXTS ∷
    NETKIT_MODE_TEXTS ∷ NETKIT_POLICY_TEXTS ∷ NETKIT_SCRUB_TEXTS ∷ STATE_TEXTS ∷ LINK_MODE_TEXTS ∷
    IN6_ADDR_GEN_MODE_TEXTS ∷ MCTP_PHYS_BINDING_TEXTS ∷ ETHERNET_PROTOCOL_TEXTS ∷ ADDRESS_FAMILY_TEXTS ∷
    LINK_LAYER_TYPE_TEXTS ∷ MESSAGE_TYPE_TEXTS ∷ ETHER_TYPE_TEXTS ∷ [])

-- Names of bits in headers and in attributes of links: each table's, in the order of their indexes.
abbrev pub link_flag_names : List (List Text)
link_flag_names =
    map (λ b. texts_of (λ n. n.now) b.now)
    (LINK_FLAGS_TEXTS ∷ LINK_EXTENT_MASK_TEXTS ∷ MESSAGE_FLAGS_TEXTS ∷ MESSAGE_GET_FLAGS_TEXTS ∷
    MESSAGE_CREATE_FLAGS_TEXTS ∷ MESSAGE_DELETE_FLAGS_TEXTS ∷ MESSAGE_ACK_FLAGS_TEXTS ∷ [])

-- Names of numbers and bits in raw lists and bodies about addresses and routes: each table's, in the order of their
-- indexes.
abbrev pub route_texts : List (List Text)
route_texts =
    map (λ b. texts_of (λ n. n.now) b.now)
    (FAMILY_TEXTS ∷ RT_SCOPE_TEXTS ∷ RT_TABLE_TEXTS ∷ RT_PROTOCOL_TEXTS ∷ RTN_TYPE_TEXTS ∷ RT_DEL_REASON_TEXTS ∷
    ROUTER_PREF_TEXTS ∷ IFA_PROTO_TEXTS ∷ IP_PROTO_TEXTS ∷ ENCAP_TYPE_TEXTS ∷ SEG6_LOCAL_ACTION_TEXTS ∷
    SEG6_MODE_TEXTS ∷ IOAM6_MODE_TEXTS ∷ IFA_FLAGS_TEXTS ∷ NEXTHOP_FLAGS_TEXTS ∷ ROUTE_FLAGS_TEXTS ∷ RTAX_LOCK_TEXTS ∷
    RTAX_FEATURES_TEXTS ∷ SEG6_FLAVORS_TEXTS ∷ SEG6_FLAGS_TEXTS ∷ [])

-- Names of numbers and bits in raw lists and bodies about neighbours, rules, next hops, settings, traffic control:
-- each table's, in the order of their indexes.
abbrev pub neighbour_texts : List (List Text)
neighbour_texts =
    map (λ b. texts_of (λ n. n.now) b.now)
    (FR_ACT_TEXTS ∷ TC_PARENT_TEXTS ∷ NETCONF_IFINDEX_TEXTS ∷ NEXTHOP_GRP_TYPE_TEXTS ∷ NEIGH_STATE_TEXTS ∷
    NEIGH_FLAGS_TEXTS ∷ NEIGH_FLAGS_EXT_TEXTS ∷ FDB_NOTIFY_TEXTS ∷ FIB_RULE_FLAGS_TEXTS ∷ TCA_DUMP_FLAGS_TEXTS ∷
    TCA_ROOT_FLAGS_TEXTS ∷ TCA_ACT_FLAGS_TEXTS ∷ TCA_ACT_HW_STATS_TEXTS ∷ STATS_FILTER_TEXTS ∷ NHA_OP_FLAGS_TEXTS ∷
    TUNNEL_MSG_FLAGS_TEXTS ∷ [])

-- Names of numbers and bits in raw lists and bodies about bridges and about kinds of links: each table's, in the
-- order of their indexes.
abbrev pub bridge_texts : List (List Text)
bridge_texts =
    map (λ b. texts_of (λ n. n.now) b.now)
    (MCAST_MODE_TEXTS ∷ MDB_ROUTER_TYPE_TEXTS ∷ MDB_STATE_TEXTS ∷ BR_STATE_TEXTS ∷ BR_STP_MODE_TEXTS ∷
    BRIDGE_MODE_TEXTS ∷ HSR_PROTOCOL_TEXTS ∷ CAN_STATE_TEXTS ∷ TUN_TYPE_TEXTS ∷ NETKIT_PAIRING_TEXTS ∷
    PORT_REQUEST_TEXTS ∷ VLANDB_DUMP_FLAGS_TEXTS ∷ MDB_FLAGS_TEXTS ∷ BRIDGE_FLAGS_TEXTS ∷ BRIDGE_VLAN_FLAGS_TEXTS ∷
    VLAN_FLAGS_TEXTS ∷ BR_BOOLOPT_TEXTS ∷ CAN_CTRLMODE_FLAGS_TEXTS ∷ [])

-- Names of errors in acknowledgements.
abbrev pub error_texts : List (List Text)
error_texts = map (λ b. texts_of (λ n. n.now) b.now) (ERROR_TEXTS ∷ [])

-- Names of numbers and bits in the options of queueing disciplines, filters and actions, and of lifetimes: each table's,
-- in the order of their indexes.
abbrev pub traffic_texts : List (List Text)
traffic_texts =
    map (λ b. texts_of (λ n. n.now) b.now)
    (TC_ACTION_TEXTS ∷ MIRRED_ACTION_TEXTS ∷ LIFETIME_TEXTS ∷ CLS_FLAGS_TEXTS ∷ U32_FLAGS_TEXTS ∷ BPF_FLAGS_TEXTS ∷
    CT_STATE_TEXTS ∷ [])

-- The tables by group: 32 indexes for each, of which the last ones may have no table.
abbrev pub number_groups : List (List (List Text))
number_groups =
    link_texts ∷ link_flag_names ∷ route_texts ∷ neighbour_texts ∷ bridge_texts ∷ error_texts ∷ traffic_texts ∷ []

-- The numbers, or the bits, of a table with their names.
unfoldable pub number_texts : Numbers → List Text
number_texts table = get_or (get_or number_groups (table.0 / 32) []) (table.0 % 32) []
