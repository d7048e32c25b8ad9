-- The tables of raw attributes, as the constants in code define them.
use Rattle.std.specs.Prelude.{ℕ, ◌/◌, ◌%◌, List, [], ◌∷◌, get_or, map}
use Rattle.link_lines_raw.specs.Names.{NameRowOf}
use Rattle.link_lines_raw.specs.Rows.{Raw, raw_rows_in_code}
use Rattle.link_lines_raw.specs.declared.link_rows.TheConstants.{LINK_ROWS, DEVLINK_PORT_ROWS, GRE_ROWS, GRE6_ROWS}
use Rattle.link_lines_raw.specs.declared.link_rows.TheConstants.{GENEVE_ROWS, XFRM_ROWS, NETKIT_ROWS, VF_ROWS}
use Rattle.link_lines_raw.specs.declared.link_rows.TheConstants.{PORT_ROWS, FAMILY_SPECIFIC_ROWS, INET_ROWS}
use Rattle.link_lines_raw.specs.declared.link_rows.TheConstants.{INET6_ROWS, MCTP_ROWS}
use Rattle.link_lines_raw.specs.declared.kind_rows.TheConstants.{VLAN_ROWS, VLAN_QOS_ROWS, BOND_ROWS, AD_INFO_ROWS}
use Rattle.link_lines_raw.specs.declared.kind_rows.TheConstants.{INDEXED_IPV4_ROWS, INDEXED_IPV6_ROWS, BOND_PORT_ROWS}
use Rattle.link_lines_raw.specs.declared.kind_rows.TheConstants.{TUN_ROWS, CAN_ROWS, CAN_TDC_ROWS}
use Rattle.link_lines_raw.specs.declared.kind_rows.TheConstants.{CAN_CTRLMODE_EXT_ROWS, CAN_PWM_ROWS, HSR_ROWS}
use Rattle.link_lines_raw.specs.declared.kind_rows.TheConstants.{DSA_ROWS}
use Rattle.link_lines_raw.specs.declared.bridge_rows.TheConstants.{BRIDGE_ROWS, QUERIER_STATE_ROWS, BRIDGE_PORT_ROWS}
use Rattle.link_lines_raw.specs.declared.bridge_rows.TheConstants.{BRIDGE_SPECIFIC_ROWS, VLAN_TUNNEL_ROWS, MST_ROWS}
use Rattle.link_lines_raw.specs.declared.bridge_rows.TheConstants.{MST_ENTRY_ROWS, MRP_ROWS, MRP_INSTANCE_ROWS}
use Rattle.link_lines_raw.specs.declared.bridge_rows.TheConstants.{MRP_PORT_STATE_ROWS, MRP_PORT_ROLE_ROWS}
use Rattle.link_lines_raw.specs.declared.bridge_rows.TheConstants.{MRP_RING_STATE_ROWS, MRP_RING_ROLE_ROWS}
use Rattle.link_lines_raw.specs.declared.bridge_rows.TheConstants.{MRP_START_TEST_ROWS, MRP_INFO_ROWS}
use Rattle.link_lines_raw.specs.declared.bridge_rows.TheConstants.{MRP_IN_STATE_ROWS, MRP_IN_ROLE_ROWS}
use Rattle.link_lines_raw.specs.declared.bridge_rows.TheConstants.{MRP_START_IN_TEST_ROWS}
use Rattle.link_lines_raw.specs.declared.cfm_rows.TheConstants.{CFM_ROWS, CFM_MEP_CREATE_ROWS, CFM_MEP_DELETE_ROWS}
use Rattle.link_lines_raw.specs.declared.cfm_rows.TheConstants.{CFM_MEP_CONFIG_ROWS, CFM_CC_CONFIG_ROWS}
use Rattle.link_lines_raw.specs.declared.cfm_rows.TheConstants.{CFM_CC_PEER_MEP_ROWS, CFM_CC_RDI_ROWS}
use Rattle.link_lines_raw.specs.declared.cfm_rows.TheConstants.{CFM_CC_CCM_TX_ROWS, CFM_MEP_STATUS_ROWS}
use Rattle.link_lines_raw.specs.declared.cfm_rows.TheConstants.{CFM_CC_PEER_STATUS_ROWS}
use Rattle.link_lines_raw.specs.declared.route_rows.TheConstants.{ADDRESS_ROWS, ROUTE_ROWS, MPLS_ROUTE_ROWS}
use Rattle.link_lines_raw.specs.declared.route_rows.TheConstants.{MROUTE_ROWS, ROUTE_METRICS_ROWS, ENCAP_MPLS_ROWS}
use Rattle.link_lines_raw.specs.declared.route_rows.TheConstants.{ENCAP_IP_ROWS, ENCAP_ILA_ROWS, ENCAP_IP6_ROWS}
use Rattle.link_lines_raw.specs.declared.route_rows.TheConstants.{ENCAP_SEG6_ROWS, ENCAP_BPF_ROWS}
use Rattle.link_lines_raw.specs.declared.route_rows.TheConstants.{ENCAP_SEG6_LOCAL_ROWS, ENCAP_RPL_ROWS}
use Rattle.link_lines_raw.specs.declared.route_rows.TheConstants.{ENCAP_IOAM6_ROWS, ENCAP_XFRM_ROWS}
use Rattle.link_lines_raw.specs.declared.route_rows.TheConstants.{TUNNEL_OPTIONS_ROWS, GENEVE_OPTION_ROWS}
use Rattle.link_lines_raw.specs.declared.route_rows.TheConstants.{VXLAN_OPTION_ROWS, ERSPAN_OPTION_ROWS}
use Rattle.link_lines_raw.specs.declared.route_rows.TheConstants.{BPF_PROGRAM_ROWS, SEG6_LOCAL_BPF_ROWS}
use Rattle.link_lines_raw.specs.declared.route_rows.TheConstants.{SEG6_LOCAL_COUNTERS_ROWS, SEG6_LOCAL_FLAVORS_ROWS}
use Rattle.link_lines_raw.specs.declared.neighbour_rows.TheConstants.{NEIGHBOUR_ROWS, FORWARDING_ENTRY_ROWS}
use Rattle.link_lines_raw.specs.declared.neighbour_rows.TheConstants.{RULE_ROWS, PREFIX_ROWS, NEIGHBOUR_TABLE_ROWS}
use Rattle.link_lines_raw.specs.declared.neighbour_rows.TheConstants.{NEIGHBOUR_TABLE_PARAMETERS_ROWS}
use Rattle.link_lines_raw.specs.declared.neighbour_rows.TheConstants.{ADDRESS_LABEL_ROWS, NEXTHOP_ROWS}
use Rattle.link_lines_raw.specs.declared.neighbour_rows.TheConstants.{RESILIENT_GROUP_ROWS, RESILIENT_BUCKET_ROWS}
use Rattle.link_lines_raw.specs.declared.neighbour_rows.TheConstants.{GROUP_STATISTICS_ROWS}
use Rattle.link_lines_raw.specs.declared.neighbour_rows.TheConstants.{GROUP_STATISTICS_ENTRY_ROWS, NETCONF_ROWS}
use Rattle.link_lines_raw.specs.declared.neighbour_rows.TheConstants.{NAMESPACE_ROWS}
use Rattle.link_lines_raw.specs.declared.traffic_rows.TheConstants.{TRAFFIC_CONTROL_ROWS}
use Rattle.link_lines_raw.specs.declared.traffic_rows.TheConstants.{TRAFFIC_CONTROL_STATISTICS_ROWS, SIZE_TABLE_ROWS}
use Rattle.link_lines_raw.specs.declared.traffic_rows.TheConstants.{ACTIONS_ROWS, INDEXED_ACTION_ROWS, ACTION_ROWS}
use Rattle.link_lines_raw.specs.declared.traffic_rows.TheConstants.{STATISTICS_ROWS, STATISTICS_REQUEST_ROWS}
use Rattle.link_lines_raw.specs.declared.traffic_rows.TheConstants.{STATISTICS_FILTERS_ROWS, XSTATS_ROWS}
use Rattle.link_lines_raw.specs.declared.traffic_rows.TheConstants.{BRIDGE_XSTATS_ROWS, BOND_XSTATS_ROWS}
use Rattle.link_lines_raw.specs.declared.traffic_rows.TheConstants.{BOND_3AD_STAT_ROWS, OFFLOAD_XSTATS_ROWS}
use Rattle.link_lines_raw.specs.declared.traffic_rows.TheConstants.{HW_S_INFO_ROWS, HW_S_INFO_ENTRY_ROWS}
use Rattle.link_lines_raw.specs.declared.traffic_rows.TheConstants.{STATISTICS_FAMILIES_ROWS, MPLS_STATS_ROWS}
use Rattle.link_lines_raw.specs.declared.multicast_rows.TheConstants.{MULTICAST_ROWS, MULTICAST_GROUPS_ROWS}
use Rattle.link_lines_raw.specs.declared.multicast_rows.TheConstants.{MULTICAST_GROUP_ROWS, MULTICAST_ENTRY_ROWS}
use Rattle.link_lines_raw.specs.declared.multicast_rows.TheConstants.{MULTICAST_SOURCES_ROWS, MULTICAST_SOURCE_ROWS}
use Rattle.link_lines_raw.specs.declared.multicast_rows.TheConstants.{MULTICAST_ROUTERS_ROWS, MULTICAST_ROUTER_ROWS}
use Rattle.link_lines_raw.specs.declared.multicast_rows.TheConstants.{MULTICAST_SET_ROWS, MULTICAST_GET_ROWS}
use Rattle.link_lines_raw.specs.declared.multicast_rows.TheConstants.{MULTICAST_ATTRIBUTES_ROWS}
use Rattle.link_lines_raw.specs.declared.multicast_rows.TheConstants.{MULTICAST_SET_SOURCES_ROWS}
use Rattle.link_lines_raw.specs.declared.multicast_rows.TheConstants.{MULTICAST_SET_SOURCE_ROWS, VLANS_ROWS}
use Rattle.link_lines_raw.specs.declared.multicast_rows.TheConstants.{VLANS_DUMP_ROWS, VLAN_ENTRY_ROWS}
use Rattle.link_lines_raw.specs.declared.multicast_rows.TheConstants.{VLAN_TUNNEL_INFO_ROWS, VLAN_STATISTICS_ROWS}
use Rattle.link_lines_raw.specs.declared.multicast_rows.TheConstants.{VLAN_GLOBAL_OPTIONS_ROWS, TUNNEL_ROWS}
use Rattle.link_lines_raw.specs.declared.multicast_rows.TheConstants.{VNIFILTER_ENTRY_ROWS, VNIFILTER_STATS_ROWS}
use Rattle.link_lines_raw.specs.declared.multicast_rows.TheConstants.{ACKNOWLEDGEMENT_ROWS, ATTRIBUTE_POLICY_ROWS}
use Rattle.link_lines_raw.specs.declared.option_rows.TheConstants.{TBF_ROWS, HTB_ROWS, FQ_CODEL_ROWS, PRIO_ROWS}
use Rattle.link_lines_raw.specs.declared.option_rows.TheConstants.{U32_FILTER_ROWS, FLOWER_ROWS, MATCHALL_ROWS}
use Rattle.link_lines_raw.specs.declared.option_rows.TheConstants.{BPF_FILTER_ROWS, GACT_ROWS, MIRRED_ROWS}

-- Rows of lists in link messages: each table's, in the order of their indexes.
unfoldable pub link_rows : List (List (NameRowOf Raw))
link_rows =
    map (λ b. raw_rows_in_code (λ n. n.now) b.now)
    (LINK_ROWS ∷ DEVLINK_PORT_ROWS ∷ GRE_ROWS ∷ GRE6_ROWS ∷ GENEVE_ROWS ∷ XFRM_ROWS ∷ NETKIT_ROWS ∷ VF_ROWS ∷
    PORT_ROWS ∷ FAMILY_SPECIFIC_ROWS ∷ INET_ROWS ∷ INET6_ROWS ∷ MCTP_ROWS ∷ [])

-- Rows of lists that depend on the kind of a link or of a port: each table's, in the order of their indexes.
unfoldable pub kind_rows : List (List (NameRowOf Raw))
kind_rows =
    map (λ b. raw_rows_in_code (λ n. n.now) b.now)
    (VLAN_ROWS ∷ VLAN_QOS_ROWS ∷ BOND_ROWS ∷ AD_INFO_ROWS ∷ INDEXED_IPV4_ROWS ∷ INDEXED_IPV6_ROWS ∷
    BOND_PORT_ROWS ∷ TUN_ROWS ∷ CAN_ROWS ∷ CAN_TDC_ROWS ∷ CAN_CTRLMODE_EXT_ROWS ∷ CAN_PWM_ROWS ∷ HSR_ROWS ∷
    DSA_ROWS ∷ [])

-- Rows of lists about bridges and their ports: each table's, in the order of their indexes.
unfoldable pub bridge_rows : List (List (NameRowOf Raw))
bridge_rows =
    map (λ b. raw_rows_in_code (λ n. n.now) b.now)
    (BRIDGE_ROWS ∷ QUERIER_STATE_ROWS ∷ BRIDGE_PORT_ROWS ∷ BRIDGE_SPECIFIC_ROWS ∷ VLAN_TUNNEL_ROWS ∷ MST_ROWS ∷
    MST_ENTRY_ROWS ∷ MRP_ROWS ∷ MRP_INSTANCE_ROWS ∷ MRP_PORT_STATE_ROWS ∷ MRP_PORT_ROLE_ROWS ∷
    MRP_RING_STATE_ROWS ∷ MRP_RING_ROLE_ROWS ∷ MRP_START_TEST_ROWS ∷ MRP_INFO_ROWS ∷ MRP_IN_STATE_ROWS ∷
    MRP_IN_ROLE_ROWS ∷ MRP_START_IN_TEST_ROWS ∷ [])

-- Rows of lists about the fault management of bridges: each table's, in the order of their indexes.
unfoldable pub cfm_rows : List (List (NameRowOf Raw))
cfm_rows =
    map (λ b. raw_rows_in_code (λ n. n.now) b.now)
    (CFM_ROWS ∷ CFM_MEP_CREATE_ROWS ∷ CFM_MEP_DELETE_ROWS ∷ CFM_MEP_CONFIG_ROWS ∷ CFM_CC_CONFIG_ROWS ∷
    CFM_CC_PEER_MEP_ROWS ∷ CFM_CC_RDI_ROWS ∷ CFM_CC_CCM_TX_ROWS ∷ CFM_MEP_STATUS_ROWS ∷ CFM_CC_PEER_STATUS_ROWS ∷ [])

-- Rows of lists in messages about addresses and routes: each table's, in the order of their indexes.
unfoldable pub route_rows : List (List (NameRowOf Raw))
route_rows =
    map (λ b. raw_rows_in_code (λ n. n.now) b.now)
    (ADDRESS_ROWS ∷ ROUTE_ROWS ∷ MPLS_ROUTE_ROWS ∷ MROUTE_ROWS ∷ ROUTE_METRICS_ROWS ∷ ENCAP_MPLS_ROWS ∷
    ENCAP_IP_ROWS ∷ ENCAP_ILA_ROWS ∷ ENCAP_IP6_ROWS ∷ ENCAP_SEG6_ROWS ∷ ENCAP_BPF_ROWS ∷ ENCAP_SEG6_LOCAL_ROWS ∷
    ENCAP_RPL_ROWS ∷ ENCAP_IOAM6_ROWS ∷ ENCAP_XFRM_ROWS ∷ TUNNEL_OPTIONS_ROWS ∷ GENEVE_OPTION_ROWS ∷
    VXLAN_OPTION_ROWS ∷ ERSPAN_OPTION_ROWS ∷ BPF_PROGRAM_ROWS ∷ SEG6_LOCAL_BPF_ROWS ∷ SEG6_LOCAL_COUNTERS_ROWS ∷
    SEG6_LOCAL_FLAVORS_ROWS ∷ [])

-- Rows of lists in messages about neighbours, rules, next hops and settings: each table's, in the order of their
-- indexes.
unfoldable pub neighbour_rows : List (List (NameRowOf Raw))
neighbour_rows =
    map (λ b. raw_rows_in_code (λ n. n.now) b.now)
    (NEIGHBOUR_ROWS ∷ FORWARDING_ENTRY_ROWS ∷ RULE_ROWS ∷ PREFIX_ROWS ∷ NEIGHBOUR_TABLE_ROWS ∷
    NEIGHBOUR_TABLE_PARAMETERS_ROWS ∷ ADDRESS_LABEL_ROWS ∷ NEXTHOP_ROWS ∷ RESILIENT_GROUP_ROWS ∷
    RESILIENT_BUCKET_ROWS ∷ GROUP_STATISTICS_ROWS ∷ GROUP_STATISTICS_ENTRY_ROWS ∷ NETCONF_ROWS ∷ NAMESPACE_ROWS ∷ [])

-- Rows of lists in messages about traffic control and statistics: each table's, in the order of their indexes.
unfoldable pub traffic_rows : List (List (NameRowOf Raw))
traffic_rows =
    map (λ b. raw_rows_in_code (λ n. n.now) b.now)
    (TRAFFIC_CONTROL_ROWS ∷ TRAFFIC_CONTROL_STATISTICS_ROWS ∷ SIZE_TABLE_ROWS ∷ ACTIONS_ROWS ∷
    INDEXED_ACTION_ROWS ∷ ACTION_ROWS ∷ STATISTICS_ROWS ∷ STATISTICS_REQUEST_ROWS ∷ STATISTICS_FILTERS_ROWS ∷
    XSTATS_ROWS ∷ BRIDGE_XSTATS_ROWS ∷ BOND_XSTATS_ROWS ∷ BOND_3AD_STAT_ROWS ∷ OFFLOAD_XSTATS_ROWS ∷
    HW_S_INFO_ROWS ∷ HW_S_INFO_ENTRY_ROWS ∷ STATISTICS_FAMILIES_ROWS ∷ MPLS_STATS_ROWS ∷ [])

-- Rows of lists in messages about multicast groups, VLANs and tunnels, and in acknowledgements: each table's, in the
-- order of their indexes.
unfoldable pub multicast_rows : List (List (NameRowOf Raw))
multicast_rows =
    map (λ b. raw_rows_in_code (λ n. n.now) b.now)
    (MULTICAST_ROWS ∷ MULTICAST_GROUPS_ROWS ∷ MULTICAST_GROUP_ROWS ∷ MULTICAST_ENTRY_ROWS ∷
    MULTICAST_SOURCES_ROWS ∷ MULTICAST_SOURCE_ROWS ∷ MULTICAST_ROUTERS_ROWS ∷ MULTICAST_ROUTER_ROWS ∷
    MULTICAST_SET_ROWS ∷ MULTICAST_GET_ROWS ∷ MULTICAST_ATTRIBUTES_ROWS ∷ MULTICAST_SET_SOURCES_ROWS ∷
    MULTICAST_SET_SOURCE_ROWS ∷ VLANS_ROWS ∷ VLANS_DUMP_ROWS ∷ VLAN_ENTRY_ROWS ∷ VLAN_TUNNEL_INFO_ROWS ∷
    VLAN_STATISTICS_ROWS ∷ VLAN_GLOBAL_OPTIONS_ROWS ∷ TUNNEL_ROWS ∷ VNIFILTER_ENTRY_ROWS ∷ VNIFILTER_STATS_ROWS ∷
    ACKNOWLEDGEMENT_ROWS ∷ ATTRIBUTE_POLICY_ROWS ∷ [])

-- Rows of lists in the options of queueing disciplines, filters and actions: each table's, in the order of their
-- indexes.
unfoldable pub option_rows : List (List (NameRowOf Raw))
option_rows =
    map (λ b. raw_rows_in_code (λ n. n.now) b.now)
    (TBF_ROWS ∷ HTB_ROWS ∷ FQ_CODEL_ROWS ∷ PRIO_ROWS ∷ U32_FILTER_ROWS ∷ FLOWER_ROWS ∷ MATCHALL_ROWS ∷
    BPF_FILTER_ROWS ∷ GACT_ROWS ∷ MIRRED_ROWS ∷ [])

-- The tables by group: 32 indexes for each, of which the last ones may have no table.
abbrev pub raw_groups : List (List (List (NameRowOf Raw)))
raw_groups =
    link_rows ∷ kind_rows ∷ bridge_rows ∷ cfm_rows ∷ route_rows ∷ neighbour_rows ∷ traffic_rows ∷ multicast_rows ∷
    option_rows ∷ []

-- The rows of the table with this index.
unfoldable pub raw_rows_of : ℕ → List (NameRowOf Raw)
raw_rows_of n = get_or (get_or raw_groups (n / 32) []) (n % 32) []
