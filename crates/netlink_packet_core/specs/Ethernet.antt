-- The numbers and the display of the protocols that an Ethernet frame carries.
use Rattle.std.specs.Prelude.{◌≡◌, ℕ, Bool, true, false, List, if◌then◌else◌, ◌==◌, codes}
use Rattle.std.specs.Fmt.{decimal}
use Rattle.netlink_packet_core.specs.declared.ethernet.EthernetProtocol.{EthernetProtocol}

-- The number of a protocol.
abbrev pub ethernet_protocol_number : EthernetProtocol → ℕ
ethernet_protocol_number EthernetProtocol.Ipv4 = 0x0800
ethernet_protocol_number EthernetProtocol.Arp = 0x0806
ethernet_protocol_number EthernetProtocol.Vlan8021Q = 0x8100
ethernet_protocol_number EthernetProtocol.Ipv6 = 0x86dd
ethernet_protocol_number EthernetProtocol.Vlan8021Ad = 0x88a8
ethernet_protocol_number EthernetProtocol.Lldp = 0x88cc
ethernet_protocol_number (EthernetProtocol.Other n) = n

-- The protocol of a number.
abbrev pub ethernet_protocol_of : ℕ → EthernetProtocol
ethernet_protocol_of n =
    if n == 0x0800 then EthernetProtocol.Ipv4 else (
    if n == 0x0806 then EthernetProtocol.Arp else (
    if n == 0x8100 then EthernetProtocol.Vlan8021Q else (
    if n == 0x86dd then EthernetProtocol.Ipv6 else (
    if n == 0x88a8 then EthernetProtocol.Vlan8021Ad else (
    if n == 0x88cc then EthernetProtocol.Lldp else
    EthernetProtocol.Other n)))))

-- The display of a protocol.
abbrev pub ethernet_protocol_text : EthernetProtocol → List ℕ
ethernet_protocol_text EthernetProtocol.Ipv4 = codes "ipv4"
ethernet_protocol_text EthernetProtocol.Arp = codes "arp"
ethernet_protocol_text EthernetProtocol.Vlan8021Q = codes "802.1q"
ethernet_protocol_text EthernetProtocol.Ipv6 = codes "ipv6"
ethernet_protocol_text EthernetProtocol.Vlan8021Ad = codes "802.1ad"
ethernet_protocol_text EthernetProtocol.Lldp = codes "lldp"
ethernet_protocol_text (EthernetProtocol.Other n) = decimal n

-- The protocol is `Other`.
abbrev pub is_other_protocol : EthernetProtocol → Bool
is_other_protocol (EthernetProtocol.Other n) = true
is_other_protocol _ = false

-- The protocol of a number has that number.
abbrev pub ProtocolsKeepNumbers : Type 0
ProtocolsKeepNumbers = (n : ℕ) → ethernet_protocol_number (ethernet_protocol_of n) ≡ n

-- A protocol that isn't `Other` is the one of its number.
abbrev pub NumbersNameProtocols : Type 0
NumbersNameProtocols =
    (p : EthernetProtocol) → is_other_protocol p ≡ false → ethernet_protocol_of (ethernet_protocol_number p) ≡ p
