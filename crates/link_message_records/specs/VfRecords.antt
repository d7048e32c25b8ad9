-- Records of virtual functions (if_link.h, struct ifla_vf_*).
use Rattle.std.specs.Prelude.{ℕ, List, ◌++◌}
use Rattle.netlink_packet_core.specs.Attributes.{zeros}
use Rattle.netlink_packet_core.specs.Numbers.{le4, be2}
use Rattle.link_message_types.specs.VfTypes.{vf_link_state_number}
use Rattle.link_message_types.specs.VlanTypes.{vlan_protocol_number}
use Rattle.link_message_records.specs.declared.vf.VfInfoVlan.{VfInfoVlan}
use Rattle.link_message_records.specs.declared.vf.VfInfoTxRate.{VfInfoTxRate}
use Rattle.link_message_records.specs.declared.vf.VfInfoRate.{VfInfoRate}
use Rattle.link_message_records.specs.declared.vf.VfInfoLinkState.{VfInfoLinkState}
use Rattle.link_message_records.specs.declared.vf.VfInfoMac.{VfInfoMac}
use Rattle.link_message_records.specs.declared.vf.VfInfoBroadcast.{VfInfoBroadcast}
use Rattle.link_message_records.specs.declared.vf.VfVlanInfo.{VfVlanInfo}

-- The bytes of a VLAN: three numbers of 4 bytes.
abbrev pub vf_info_vlan_bytes : VfInfoVlan → List ℕ
vf_info_vlan_bytes v = le4 v.vf_id ++ (le4 v.vlan_id ++ le4 v.qos)

-- The bytes of a maximum rate: two numbers of 4 bytes.
abbrev pub vf_info_tx_rate_bytes : VfInfoTxRate → List ℕ
vf_info_tx_rate_bytes v = le4 v.vf_id ++ le4 v.rate

-- The bytes of a minimum and maximum rate: three numbers of 4 bytes.
abbrev pub vf_info_rate_bytes : VfInfoRate → List ℕ
vf_info_rate_bytes v = le4 v.vf_id ++ (le4 v.min_tx_rate ++ le4 v.max_tx_rate)

-- The bytes of a link state: two numbers of 4 bytes.
abbrev pub vf_info_link_state_bytes : VfInfoLinkState → List ℕ
vf_info_link_state_bytes v = le4 v.vf_id ++ le4 (vf_link_state_number v.state)

-- The bytes of a hardware address: a number of 4 bytes, and 32 bytes.
abbrev pub vf_info_mac_bytes : VfInfoMac → List ℕ
vf_info_mac_bytes v = le4 v.vf_id ++ v.mac

-- The bytes of a broadcast address: 32 bytes.
abbrev pub vf_info_broadcast_bytes : VfInfoBroadcast → List ℕ
vf_info_broadcast_bytes v = v.addr

-- The bytes of a VLAN in a list: three numbers of 4 bytes, one of 2, big-endian, and zeros.
abbrev pub vf_vlan_info_bytes : VfVlanInfo → List ℕ
vf_vlan_info_bytes v =
    (le4 v.vf_id ++ (le4 v.vlan_id ++ (le4 v.qos ++ be2 (vlan_protocol_number v.protocol)))) ++ zeros 2
