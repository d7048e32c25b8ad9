-- The numbers of the protocols of VLANs.
use Rattle.std.specs.Prelude.{ℕ, List, [], ◌∷◌}
use Rattle.netlink_packet_core.specs.Named.{numbered_by}
use Rattle.link_message_types.specs.declared.vlan.VlanProtocol.{VlanProtocol}

-- The number of a protocol.
abbrev pub vlan_protocol_number : VlanProtocol → ℕ
vlan_protocol_number VlanProtocol.Ieee8021Q = 0x8100
vlan_protocol_number VlanProtocol.Ieee8021Ad = 0x88a8
vlan_protocol_number (VlanProtocol.Other n) = n

-- The protocols with a variant of their own.
abbrev pub listed_vlan_protocols : List VlanProtocol
listed_vlan_protocols = VlanProtocol.Ieee8021Q ∷ VlanProtocol.Ieee8021Ad ∷ []

-- The protocol of a number.
abbrev pub vlan_protocol_of : ℕ → VlanProtocol
vlan_protocol_of n = numbered_by vlan_protocol_number listed_vlan_protocols VlanProtocol.Other n
