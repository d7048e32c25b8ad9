-- Names at the start of lines.
use Rattle.std.specs.Prelude.{ℕ, Bool, List, [], ◌∷◌, bytes_eq, codes}
use Rattle.std.specs.List.{list_any}

-- Whether a name is one of these.
abbrev pub is_among : List (List ℕ) → List ℕ → Bool
is_among names name = list_any (λ other. bytes_eq other name) names

-- The attributes that count.
unfoldable pub counter_names : List (List ℕ)
counter_names =
    codes "BRIDGE_QUERIER_IPV6_OTHER_TIMER" ∷
    codes "BRIDGE_QUERIER_IP_OTHER_TIMER" ∷
    codes "BRIDGE_VLANDB_ENTRY_MCAST_N_GROUPS" ∷
    codes "BRIDGE_VLANDB_ENTRY_STATS" ∷
    codes "IFA_CACHEINFO" ∷
    codes "IFLA_BOND_SLAVE_LINK_FAILURE_COUNT" ∷
    codes "IFLA_BRPORT_FORWARD_DELAY_TIMER" ∷
    codes "IFLA_BRPORT_HOLD_TIMER" ∷
    codes "IFLA_BRPORT_MCAST_EHT_HOSTS_CNT" ∷
    codes "IFLA_BRPORT_MCAST_N_GROUPS" ∷
    codes "IFLA_BRPORT_MESSAGE_AGE_TIMER" ∷
    codes "IFLA_BR_FDB_N_LEARNED" ∷
    codes "IFLA_BR_GC_TIMER" ∷
    codes "IFLA_BR_HELLO_TIMER" ∷
    codes "IFLA_BR_TCN_TIMER" ∷
    codes "IFLA_BR_TOPOLOGY_CHANGE_TIMER" ∷
    codes "IFLA_CAN_BERR_COUNTER" ∷
    codes "IFLA_CARRIER_CHANGES" ∷
    codes "IFLA_CARRIER_DOWN_COUNT" ∷
    codes "IFLA_CARRIER_UP_COUNT" ∷
    codes "IFLA_HSR_SEQ_NR" ∷
    codes "IFLA_INET6_CACHEINFO" ∷
    codes "IFLA_INET6_ICMP6STATS" ∷
    codes "IFLA_INET6_STATS" ∷
    codes "IFLA_INFO_XSTATS" ∷
    codes "IFLA_STATS" ∷
    codes "IFLA_STATS64" ∷
    codes "IFLA_STATS_AF_SPEC" ∷
    codes "IFLA_STATS_LINK_64" ∷
    codes "IFLA_STATS_LINK_OFFLOAD_XSTATS" ∷
    codes "IFLA_STATS_LINK_XSTATS" ∷
    codes "IFLA_STATS_LINK_XSTATS_SLAVE" ∷
    codes "IFLA_VF_STATS" ∷
    codes "MDBA_MDB_EATTR_TIMER" ∷
    codes "MDBA_MDB_SRCATTR_TIMER" ∷
    codes "MDBA_ROUTER_PATTR_INET6_TIMER" ∷
    codes "MDBA_ROUTER_PATTR_INET_TIMER" ∷
    codes "MDBA_ROUTER_PATTR_TIMER" ∷
    codes "NDA_CACHEINFO" ∷
    codes "NDA_PROBES" ∷
    codes "NDTA_CONFIG" ∷
    codes "NDTA_STATS" ∷
    codes "NDTPA_REFCNT" ∷
    codes "NHA_GROUP_STATS" ∷
    codes "NHA_RES_BUCKET_IDLE_TIME" ∷
    codes "NHA_RES_GROUP_UNBALANCED_TIME" ∷
    codes "PREFIX_CACHEINFO" ∷
    codes "RTA_CACHEINFO" ∷
    codes "RTA_EXPIRES" ∷
    codes "RTA_MFC_STATS" ∷
    codes "SEG6_LOCAL_COUNTERS" ∷
    codes "TCA_ACT_STATS" ∷
    codes "TCA_ROOT_TIME_DELTA" ∷
    codes "TCA_STATS" ∷
    codes "TCA_STATS2" ∷
    codes "TCA_XSTATS" ∷
    codes "VXLAN_VNIFILTER_ENTRY_STATS" ∷
    []

-- The attributes with an index of a link or a number of a namespace.
unfoldable pub index_names : List (List ℕ)
index_names =
    codes "BRIDGE_QUERIER_IPV6_PORT" ∷
    codes "BRIDGE_QUERIER_IP_PORT" ∷
    codes "IFA_TARGET_NETNSID" ∷
    codes "IFLA_AMT_LINK" ∷
    codes "IFLA_BOND_ACTIVE_SLAVE" ∷
    codes "IFLA_BOND_PRIMARY" ∷
    codes "IFLA_BRIDGE_CFM_MEP_CREATE_IFINDEX" ∷
    codes "IFLA_BRIDGE_MRP_INFO_I_IFINDEX" ∷
    codes "IFLA_BRIDGE_MRP_INFO_P_IFINDEX" ∷
    codes "IFLA_BRIDGE_MRP_INFO_S_IFINDEX" ∷
    codes "IFLA_BRIDGE_MRP_INSTANCE_P_IFINDEX" ∷
    codes "IFLA_BRIDGE_MRP_INSTANCE_S_IFINDEX" ∷
    codes "IFLA_BRIDGE_MRP_IN_ROLE_I_IFINDEX" ∷
    codes "IFLA_BRPORT_BACKUP_PORT" ∷
    codes "IFLA_DSA_CONDUIT" ∷
    codes "IFLA_GRE_LINK" ∷
    codes "IFLA_HSR_INTERLINK" ∷
    codes "IFLA_HSR_SLAVE1" ∷
    codes "IFLA_HSR_SLAVE2" ∷
    codes "IFLA_IF_NETNSID" ∷
    codes "IFLA_IPTUN_LINK" ∷
    codes "IFLA_LINK" ∷
    codes "IFLA_LINK_NETNSID" ∷
    codes "IFLA_MASTER" ∷
    codes "IFLA_NEW_IFINDEX" ∷
    codes "IFLA_NEW_NETNSID" ∷
    codes "IFLA_VTI_LINK" ∷
    codes "IFLA_VXLAN_LINK" ∷
    codes "IFLA_XFRM_LINK" ∷
    codes "LWT_XFRM_LINK" ∷
    codes "MDBA_MDB_EATTR_IFINDEX" ∷
    codes "MDBE_ATTR_IFINDEX" ∷
    codes "NDA_IFINDEX" ∷
    codes "NDA_LINK_NETNSID" ∷
    codes "NDA_MASTER" ∷
    codes "NDTPA_IFINDEX" ∷
    codes "NETCONFA_IFINDEX" ∷
    codes "NHA_MASTER" ∷
    codes "NHA_OIF" ∷
    codes "RTA_IIF" ∷
    codes "RTA_OIF" ∷
    codes "SEG6_LOCAL_IIF" ∷
    codes "SEG6_LOCAL_OIF" ∷
    []

-- The first words of headers.
unfoldable pub header_names : List (List ℕ)
header_names =
    codes "br_mdb_entry" ∷
    codes "br_port_msg" ∷
    codes "br_vlan_msg" ∷
    codes "fib_rule_hdr" ∷
    codes "if_stats_msg" ∷
    codes "ifaddrlblmsg" ∷
    codes "ifaddrmsg" ∷
    codes "ifinfomsg" ∷
    codes "ipv6_rpl_sr_hdr" ∷
    codes "ipv6_sr_hdr" ∷
    codes "ndmsg" ∷
    codes "ndtmsg" ∷
    codes "netconfmsg" ∷
    codes "nexthop_grp" ∷
    codes "nhmsg" ∷
    codes "prefixmsg" ∷
    codes "router_port" ∷
    codes "rtgen" ∷
    codes "rtgenmsg" ∷
    codes "rtmsg" ∷
    codes "rtnexthop" ∷
    codes "seg6_iptunnel_encap" ∷
    codes "segment" ∷
    codes "tc_mirred" ∷
    codes "tc_prio_qopt" ∷
    codes "tc_u32_key" ∷
    codes "tc_u32_sel" ∷
    codes "tcamsg" ∷
    codes "tcmsg" ∷
    codes "timestamp" ∷
    codes "tunnel_msg" ∷
    []
