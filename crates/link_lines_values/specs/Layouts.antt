-- The layouts of records, as the constants in code define them.
use Rattle.std.specs.Prelude.{◌/◌, ◌%◌, List, [], ◌∷◌, get_or, map}
use Rattle.link_lines_values.specs.declared.layouts.TheConstants.{STATS_FIELDS, STATS64_FIELDS, MAP_FIELDS}
use Rattle.link_lines_values.specs.declared.layouts.TheConstants.{IPV4_DEVCONF_FIELDS, IPV6_DEVCONF_FIELDS}
use Rattle.link_lines_values.specs.declared.layouts.TheConstants.{IPV6_DEVCONF_ALL_FIELDS, IP6_STATS_FIELDS}
use Rattle.link_lines_values.specs.declared.layouts.TheConstants.{ICMP6_STATS_FIELDS, CACHEINFO_FIELDS, VF_MAC_FIELDS}
use Rattle.link_lines_values.specs.declared.layouts.TheConstants.{VF_BROADCAST_FIELDS, VF_VLAN_FIELDS}
use Rattle.link_lines_values.specs.declared.layouts.TheConstants.{VF_VLAN_INFO_FIELDS, VF_TX_RATE_FIELDS}
use Rattle.link_lines_values.specs.declared.layouts.TheConstants.{VF_RATE_FIELDS, VF_SETTING_FIELDS}
use Rattle.link_lines_values.specs.declared.layouts.TheConstants.{VF_LINK_STATE_FIELDS}
use Rattle.link_lines_values.specs.declared.line_layouts.TheConstants.{IFADDRMSG_FIELDS, RTMSG_FIELDS, NDMSG_FIELDS}
use Rattle.link_lines_values.specs.declared.line_layouts.TheConstants.{FIB_RULE_HDR_FIELDS, TCMSG_FIELDS}
use Rattle.link_lines_values.specs.declared.line_layouts.TheConstants.{TCMSG_FILTER_FIELDS, TCAMSG_FIELDS}
use Rattle.link_lines_values.specs.declared.line_layouts.TheConstants.{PREFIXMSG_FIELDS, NDTMSG_FIELDS}
use Rattle.link_lines_values.specs.declared.line_layouts.TheConstants.{IFADDRLBLMSG_FIELDS, NETCONFMSG_FIELDS}
use Rattle.link_lines_values.specs.declared.line_layouts.TheConstants.{BR_PORT_MSG_FIELDS, RTGENMSG_FIELDS}
use Rattle.link_lines_values.specs.declared.line_layouts.TheConstants.{RTGEN_FIELDS, IFINFOMSG_FIELDS, IF_STATS_MSG_FIELDS, NHMSG_FIELDS}
use Rattle.link_lines_values.specs.declared.line_layouts.TheConstants.{BR_VLAN_MSG_FIELDS, TUNNEL_MSG_FIELDS}
use Rattle.link_lines_values.specs.declared.line_layouts.TheConstants.{TIMESTAMP_FIELDS, RTNEXTHOP_FIELDS}
use Rattle.link_lines_values.specs.declared.line_layouts.TheConstants.{BR_MDB_ENTRY_FIELDS, ROUTER_PORT_FIELDS}
use Rattle.link_lines_values.specs.declared.line_layouts.TheConstants.{NEXTHOP_GRP_FIELDS}
use Rattle.link_lines_values.specs.declared.route_layouts.TheConstants.{IFA_CACHEINFO_FIELDS, RTA_CACHEINFO_FIELDS}
use Rattle.link_lines_values.specs.declared.route_layouts.TheConstants.{RTA_MFC_STATS_FIELDS, NDA_CACHEINFO_FIELDS}
use Rattle.link_lines_values.specs.declared.route_layouts.TheConstants.{FIB_RULE_UID_RANGE_FIELDS}
use Rattle.link_lines_values.specs.declared.route_layouts.TheConstants.{FIB_RULE_PORT_RANGE_FIELDS, TC_STATS_FIELDS}
use Rattle.link_lines_values.specs.declared.route_layouts.TheConstants.{TC_ESTIMATOR_FIELDS, GNET_STATS_BASIC_FIELDS}
use Rattle.link_lines_values.specs.declared.route_layouts.TheConstants.{GNET_STATS_RATE_EST_FIELDS}
use Rattle.link_lines_values.specs.declared.route_layouts.TheConstants.{GNET_STATS_RATE_EST64_FIELDS}
use Rattle.link_lines_values.specs.declared.route_layouts.TheConstants.{GNET_STATS_QUEUE_FIELDS, TC_SIZESPEC_FIELDS}
use Rattle.link_lines_values.specs.declared.route_layouts.TheConstants.{PREFIX_CACHEINFO_FIELDS, NDT_CONFIG_FIELDS}
use Rattle.link_lines_values.specs.declared.route_layouts.TheConstants.{NDT_STATS_FIELDS, SEG6_IPTUNNEL_ENCAP_FIELDS}
use Rattle.link_lines_values.specs.declared.route_layouts.TheConstants.{IPV6_SR_HDR_FIELDS, IPV6_RPL_SR_HDR_FIELDS}
use Rattle.link_lines_values.specs.declared.route_layouts.TheConstants.{SEGMENT_FIELDS}
use Rattle.link_lines_values.specs.declared.device_layouts.TheConstants.{HW_STATS64_FIELDS, MPLS_LINK_STATS_FIELDS}
use Rattle.link_lines_values.specs.declared.device_layouts.TheConstants.{BRIDGE_VLAN_INFO_FIELDS}
use Rattle.link_lines_values.specs.declared.device_layouts.TheConstants.{BRIDGE_VLAN_XSTATS_FIELDS}
use Rattle.link_lines_values.specs.declared.device_layouts.TheConstants.{BR_MCAST_STATS_FIELDS}
use Rattle.link_lines_values.specs.declared.device_layouts.TheConstants.{BRIDGE_STP_XSTATS_FIELDS}
use Rattle.link_lines_values.specs.declared.device_layouts.TheConstants.{IFLA_VLAN_QOS_MAPPING_FIELDS}
use Rattle.link_lines_values.specs.declared.device_layouts.TheConstants.{IFLA_VF_GUID_FIELDS, IFLA_PORT_VSI_FIELDS}
use Rattle.link_lines_values.specs.declared.device_layouts.TheConstants.{CAN_BITTIMING_FIELDS}
use Rattle.link_lines_values.specs.declared.device_layouts.TheConstants.{CAN_BITTIMING_CONST_FIELDS}
use Rattle.link_lines_values.specs.declared.device_layouts.TheConstants.{CAN_CTRLMODE_FIELDS, CAN_BERR_COUNTER_FIELDS}
use Rattle.link_lines_values.specs.declared.device_layouts.TheConstants.{CAN_DEVICE_STATS_FIELDS}
use Rattle.link_lines_values.specs.declared.traffic_layouts.TheConstants.{TC_HANDLE_FIELDS, TC_FIFO_QOPT_FIELDS}
use Rattle.link_lines_values.specs.declared.traffic_layouts.TheConstants.{TC_PRIO_QOPT_FIELDS, TC_TBF_QOPT_FIELDS}
use Rattle.link_lines_values.specs.declared.traffic_layouts.TheConstants.{TC_HTB_OPT_FIELDS, TC_HTB_GLOB_FIELDS}
use Rattle.link_lines_values.specs.declared.traffic_layouts.TheConstants.{TC_U32_MARK_FIELDS, TCF_T_FIELDS}
use Rattle.link_lines_values.specs.declared.traffic_layouts.TheConstants.{TC_GACT_FIELDS, TC_GACT_P_FIELDS}
use Rattle.link_lines_values.specs.declared.traffic_layouts.TheConstants.{TC_U32_SEL_FIELDS, TC_U32_KEY_FIELDS, TC_MIRRED_FIELDS}
use Rattle.link_lines_values.specs.declared.fields.Layout.{Layout}
use Rattle.link_lines_values.specs.Records.{Field, fields_of}

-- Fields of records in attributes of links: each layout's, in the order of their indexes.
abbrev pub link_layouts : List (List Field)
link_layouts =
    map (λ b. fields_of (λ n. n.now) b.now)
    (STATS_FIELDS ∷ STATS64_FIELDS ∷ MAP_FIELDS ∷ IPV4_DEVCONF_FIELDS ∷ IPV6_DEVCONF_FIELDS ∷ IPV6_DEVCONF_ALL_FIELDS ∷
    IP6_STATS_FIELDS ∷ ICMP6_STATS_FIELDS ∷ CACHEINFO_FIELDS ∷ VF_MAC_FIELDS ∷ VF_BROADCAST_FIELDS ∷ VF_VLAN_FIELDS ∷
    VF_VLAN_INFO_FIELDS ∷ VF_TX_RATE_FIELDS ∷ VF_RATE_FIELDS ∷ VF_SETTING_FIELDS ∷ VF_LINK_STATE_FIELDS ∷ [])

-- Fields of records that have a line of their own: each layout's, in the order of their indexes.
abbrev pub line_layouts : List (List Field)
line_layouts =
    map (λ b. fields_of (λ n. n.now) b.now)
    (IFADDRMSG_FIELDS ∷ RTMSG_FIELDS ∷ NDMSG_FIELDS ∷ FIB_RULE_HDR_FIELDS ∷ TCMSG_FIELDS ∷ TCMSG_FILTER_FIELDS ∷
    TCAMSG_FIELDS ∷ PREFIXMSG_FIELDS ∷ NDTMSG_FIELDS ∷ IFADDRLBLMSG_FIELDS ∷ NETCONFMSG_FIELDS ∷ BR_PORT_MSG_FIELDS ∷
    RTGENMSG_FIELDS ∷ RTGEN_FIELDS ∷ IFINFOMSG_FIELDS ∷ IF_STATS_MSG_FIELDS ∷ NHMSG_FIELDS ∷ BR_VLAN_MSG_FIELDS ∷ TUNNEL_MSG_FIELDS ∷ TIMESTAMP_FIELDS ∷
    RTNEXTHOP_FIELDS ∷ BR_MDB_ENTRY_FIELDS ∷ ROUTER_PORT_FIELDS ∷ NEXTHOP_GRP_FIELDS ∷ [])

-- Fields of records in raw lists about addresses, routes, neighbours, rules and traffic control: each layout's, in
-- the order of their indexes.
abbrev pub route_layouts : List (List Field)
route_layouts =
    map (λ b. fields_of (λ n. n.now) b.now)
    (IFA_CACHEINFO_FIELDS ∷ RTA_CACHEINFO_FIELDS ∷ RTA_MFC_STATS_FIELDS ∷ NDA_CACHEINFO_FIELDS ∷
    FIB_RULE_UID_RANGE_FIELDS ∷ FIB_RULE_PORT_RANGE_FIELDS ∷ TC_STATS_FIELDS ∷ TC_ESTIMATOR_FIELDS ∷
    GNET_STATS_BASIC_FIELDS ∷ GNET_STATS_RATE_EST_FIELDS ∷ GNET_STATS_RATE_EST64_FIELDS ∷ GNET_STATS_QUEUE_FIELDS ∷
    TC_SIZESPEC_FIELDS ∷ PREFIX_CACHEINFO_FIELDS ∷ NDT_CONFIG_FIELDS ∷ NDT_STATS_FIELDS ∷
    SEG6_IPTUNNEL_ENCAP_FIELDS ∷ IPV6_SR_HDR_FIELDS ∷ IPV6_RPL_SR_HDR_FIELDS ∷ SEGMENT_FIELDS ∷ [])

-- Fields of records in raw lists about statistics, bridges and kinds of links: each layout's, in the order of their
-- indexes.
abbrev pub device_layouts : List (List Field)
device_layouts =
    map (λ b. fields_of (λ n. n.now) b.now)
    (HW_STATS64_FIELDS ∷ MPLS_LINK_STATS_FIELDS ∷ BRIDGE_VLAN_INFO_FIELDS ∷ BRIDGE_VLAN_XSTATS_FIELDS ∷
    BR_MCAST_STATS_FIELDS ∷ BRIDGE_STP_XSTATS_FIELDS ∷ IFLA_VLAN_QOS_MAPPING_FIELDS ∷ IFLA_VF_GUID_FIELDS ∷
    IFLA_PORT_VSI_FIELDS ∷ CAN_BITTIMING_FIELDS ∷ CAN_BITTIMING_CONST_FIELDS ∷ CAN_CTRLMODE_FIELDS ∷
    CAN_BERR_COUNTER_FIELDS ∷ CAN_DEVICE_STATS_FIELDS ∷ [])

-- Fields of records in the options of queueing disciplines, filters and actions: each layout's, in the order of their
-- indexes.
abbrev pub traffic_layouts : List (List Field)
traffic_layouts =
    map (λ b. fields_of (λ n. n.now) b.now)
    (TC_HANDLE_FIELDS ∷ TC_FIFO_QOPT_FIELDS ∷ TC_PRIO_QOPT_FIELDS ∷ TC_TBF_QOPT_FIELDS ∷ TC_HTB_OPT_FIELDS ∷
    TC_HTB_GLOB_FIELDS ∷ TC_U32_MARK_FIELDS ∷ TC_U32_SEL_FIELDS ∷ TC_U32_KEY_FIELDS ∷ TCF_T_FIELDS ∷ TC_GACT_FIELDS ∷
    TC_GACT_P_FIELDS ∷ TC_MIRRED_FIELDS ∷ [])

-- The layouts by group: 32 indexes for each, of which the last ones may have no layout.
abbrev pub layout_groups : List (List (List Field))
layout_groups = link_layouts ∷ line_layouts ∷ route_layouts ∷ device_layouts ∷ traffic_layouts ∷ []

-- The fields of a record with this layout.
unfoldable pub layout_fields : Layout → List Field
layout_fields layout = get_or (get_or layout_groups (layout.0 / 32) []) (layout.0 % 32) []
