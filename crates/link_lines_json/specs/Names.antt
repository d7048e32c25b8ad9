-- Names at the start of lines.
use Rattle.std.specs.Prelude.{ℕ, ◌-◌, ◌==◌, ◌||◌, ◌&&◌, nat_le, Bool, false, cond, List, [], ◌∷◌, codes, length, slice_index}

-- The attributes whose values are bytes in hex, which may look like numbers.
unfoldable pub bytes_names : List (List ℕ)
bytes_names =
    codes "BOND_3AD_STAT_PAD" ∷
    codes "BRIDGE_QUERIER_PAD" ∷
    codes "BRIDGE_VLANDB_GOPTS_PAD" ∷
    codes "BRIDGE_VLANDB_STATS_PAD" ∷
    codes "BRIDGE_XSTATS_PAD" ∷
    codes "FRA_PAD" ∷
    codes "FRA_UNUSED2" ∷
    codes "FRA_UNUSED3" ∷
    codes "FRA_UNUSED4" ∷
    codes "FRA_UNUSED5" ∷
    codes "IFLA_ADDRESS" ∷
    codes "IFLA_AF_SPEC" ∷
    codes "IFLA_BOND_AD_ACTOR_SYSTEM" ∷
    codes "IFLA_BOND_AD_INFO_PARTNER_MAC" ∷
    codes "IFLA_BOND_SLAVE_PERM_HWADDR" ∷
    codes "IFLA_BRIDGE_CFM_CC_CCM_TX_DMAC" ∷
    codes "IFLA_BRIDGE_CFM_CC_CONFIG_EXP_MAID" ∷
    codes "IFLA_BRIDGE_CFM_MEP_CONFIG_UNICAST_MAC" ∷
    codes "IFLA_BROADCAST" ∷
    codes "IFLA_BRPORT_BRIDGE_ID" ∷
    codes "IFLA_BRPORT_PAD" ∷
    codes "IFLA_BRPORT_ROOT_ID" ∷
    codes "IFLA_BR_BRIDGE_ID" ∷
    codes "IFLA_BR_GROUP_ADDR" ∷
    codes "IFLA_BR_PAD" ∷
    codes "IFLA_BR_ROOT_ID" ∷
    codes "IFLA_COST" ∷
    codes "IFLA_HSR_SUPERVISION_ADDR" ∷
    codes "IFLA_INET6_MCAST" ∷
    codes "IFLA_INFO_DATA" ∷
    codes "IFLA_INFO_SLAVE_DATA" ∷
    codes "IFLA_INFO_XSTATS" ∷
    codes "IFLA_MACVLAN_MACADDR" ∷
    codes "IFLA_NETKIT_PEER_INFO" ∷
    codes "IFLA_PERM_ADDRESS" ∷
    codes "IFLA_PHYS_PORT_ID" ∷
    codes "IFLA_PHYS_SWITCH_ID" ∷
    codes "IFLA_PORT_HOST_UUID" ∷
    codes "IFLA_PORT_INSTANCE_UUID" ∷
    codes "IFLA_PRIORITY" ∷
    codes "IFLA_PROTINFO" ∷
    codes "IFLA_WIRELESS" ∷
    codes "IOAM6_IPTUNNEL_TRACE" ∷
    codes "LWTUNNEL_IP6_PAD" ∷
    codes "LWTUNNEL_IP_OPT_GENEVE_DATA" ∷
    codes "LWTUNNEL_IP_PAD" ∷
    codes "NDA_LLADDR" ∷
    codes "NDTA_PAD" ∷
    codes "NDTPA_PAD" ∷
    codes "NHA_RES_BUCKET_PAD" ∷
    codes "NHA_RES_GROUP_PAD" ∷
    codes "NLMSGERR_ATTR_COOKIE" ∷
    codes "NL_POLICY_TYPE_ATTR_PAD" ∷
    codes "RTA_MP_ALGO" ∷
    codes "RTA_PAD" ∷
    codes "RTA_PROTOINFO" ∷
    codes "RTA_SESSION" ∷
    codes "SEG6_LOCAL_CNT_PAD" ∷
    codes "TCA_ACT_COOKIE" ∷
    codes "TCA_ACT_PAD" ∷
    codes "TCA_BPF_OPS" ∷
    codes "TCA_BPF_POLICE" ∷
    codes "TCA_BPF_TAG" ∷
    codes "TCA_FLOWER_KEY_ARP_SHA" ∷
    codes "TCA_FLOWER_KEY_ARP_SHA_MASK" ∷
    codes "TCA_FLOWER_KEY_ARP_THA" ∷
    codes "TCA_FLOWER_KEY_ARP_THA_MASK" ∷
    codes "TCA_FLOWER_KEY_CT_LABELS" ∷
    codes "TCA_FLOWER_KEY_CT_LABELS_MASK" ∷
    codes "TCA_FLOWER_KEY_ENC_OPTS" ∷
    codes "TCA_FLOWER_KEY_ENC_OPTS_MASK" ∷
    codes "TCA_FLOWER_KEY_ETH_DST" ∷
    codes "TCA_FLOWER_KEY_ETH_DST_MASK" ∷
    codes "TCA_FLOWER_KEY_ETH_SRC" ∷
    codes "TCA_FLOWER_KEY_ETH_SRC_MASK" ∷
    codes "TCA_FLOWER_KEY_MPLS_OPTS" ∷
    codes "TCA_GACT_PAD" ∷
    codes "TCA_HTB_PAD" ∷
    codes "TCA_MATCHALL_PAD" ∷
    codes "TCA_MIRRED_PAD" ∷
    codes "TCA_PAD" ∷
    codes "TCA_STATS_APP" ∷
    codes "TCA_STATS_PAD" ∷
    codes "TCA_TBF_PAD" ∷
    codes "TCA_U32_PAD" ∷
    codes "TCA_U32_PCNT" ∷
    codes "TCA_U32_POLICE" ∷
    codes "TCA_XSTATS" ∷
    codes "VETH_INFO_PEER" ∷
    codes "VNIFILTER_ENTRY_STATS_PAD" ∷
    codes "VXCAN_INFO_PEER" ∷
    codes "padding" ∷
    []

-- Whether some of these names end in these two letters.
abbrev pub ends_as_bytes : ℕ → ℕ → Bool
ends_as_bytes before last =
    cond (before == 65) ((last == 67) || ((last == 68) || (last == 71)))
    (cond (before == 67) (last == 69)
    (cond (before == 68) ((last == 50) || ((last == 51) || ((last == 52) || ((last == 53) || (last == 82)))))
    (cond (before == 69) ((last == 67) || ((last == 77) || (last == 82)))
    (cond (before == 70) (last == 79)
    (cond (before == 71) (last == 79)
    (cond (before == 72) (last == 65)
    (cond (before == 73) ((last == 68) || (last == 69))
    (cond (before == 76) (last == 83)
    (cond (before == 78) (last == 84)
    (cond (before == 79) (last == 78)
    (cond (before == 80) ((last == 80) || (last == 83))
    (cond (before == 82) (last == 67)
    (cond (before == 83) ((last == 75) || ((last == 83) || (last == 84)))
    (cond (before == 84) ((last == 65) || ((last == 83) || (last == 89)))
    (cond (before == 110) (last == 103) false)))))))))))))))

-- Whether a name ends as some of these do.
abbrev pub has_end_of_bytes : List ℕ → Bool
has_end_of_bytes name =
    nat_le 2 (length name) && ends_as_bytes (slice_index name (length name - 2)) (slice_index name (length name - 1))

-- The attributes whose values are any number of numbers.
unfoldable pub number_list_names : List (List ℕ)
number_list_names =
    codes "IFLA_CAN_BITRATE_CONST" ∷
    codes "IFLA_CAN_DATA_BITRATE_CONST" ∷
    codes "IFLA_CAN_TERMINATION_CONST" ∷
    codes "IFLA_CAN_XL_DATA_BITRATE_CONST" ∷
    codes "TCA_HTB_CTAB" ∷
    codes "TCA_HTB_RTAB" ∷
    codes "TCA_STAB_DATA" ∷
    codes "TCA_TBF_PTAB" ∷
    codes "TCA_TBF_RTAB" ∷
    []

-- The fields whose values are texts, also if they have digits alone: addresses, and padding.
unfoldable pub text_fields : List (List ℕ)
text_fields =
    codes "addr" ∷
    codes "pad3" ∷
    codes "padding" ∷
    []

-- The fields whose values are objects in each header: sets of flags, and numbers that may have a name; and the code of an
-- NLMSG_ERROR or NLMSG_DONE.
unfoldable pub object_fields : List (List ℕ)
object_fields =
    codes "action" ∷
    codes "change" ∷
    codes "cmpr" ∷
    codes "code" ∷
    codes "eaction" ∷
    codes "family" ∷
    codes "filter_mask" ∷
    codes "flags" ∷
    codes "handle" ∷
    codes "hmask" ∷
    codes "hops" ∷
    codes "mask" ∷
    codes "mode" ∷
    codes "offmask" ∷
    codes "pad" ∷
    codes "parent" ∷
    codes "proto" ∷
    codes "protocol" ∷
    codes "reserved" ∷
    codes "scope" ∷
    codes "state" ∷
    codes "table" ∷
    codes "type" ∷
    codes "val" ∷
    []

-- Whether some of these names have this letter before their last one.
abbrev pub is_letter_of_object : ℕ → Bool
is_letter_of_object c =
    (c == 97) || ((c == 100) || ((c == 101) || ((c == 103) || ((c == 108) || ((c == 110) || ((c == 111) || ((c == 112) || ((c == 115) || (c == 116)))))))))

-- Whether a name has the letter before its last one that some of these have.
abbrev pub has_letter_of_object : List ℕ → Bool
has_letter_of_object name = nat_le 2 (length name) && is_letter_of_object (slice_index name (length name - 2))
