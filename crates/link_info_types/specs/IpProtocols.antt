-- The numbers of the protocols that IP carries.
use Rattle.std.specs.Prelude.{ℕ, List, [], ◌∷◌}
use Rattle.netlink_packet_core.specs.Named.{numbered_by}
use Rattle.link_info_types.specs.declared.ip_protocol.IpProtocol.{IpProtocol}

-- The number of an IP protocol.
abbrev pub ip_protocol_number : IpProtocol → ℕ
ip_protocol_number IpProtocol.Icmp = 1
ip_protocol_number IpProtocol.IpIp = 4
ip_protocol_number IpProtocol.Tcp = 6
ip_protocol_number IpProtocol.Udp = 17
ip_protocol_number IpProtocol.Ipv6 = 41
ip_protocol_number IpProtocol.Gre = 47
ip_protocol_number IpProtocol.Esp = 50
ip_protocol_number IpProtocol.Ah = 51
ip_protocol_number IpProtocol.Icmpv6 = 58
ip_protocol_number IpProtocol.Sctp = 132
ip_protocol_number (IpProtocol.Other n) = n

-- The variants of an IP protocol, except `Other`.
abbrev pub listed_ip_protocols : List IpProtocol
listed_ip_protocols =
    IpProtocol.Icmp ∷ IpProtocol.IpIp ∷ IpProtocol.Tcp ∷ IpProtocol.Udp ∷ IpProtocol.Ipv6 ∷
    IpProtocol.Gre ∷ IpProtocol.Esp ∷ IpProtocol.Ah ∷ IpProtocol.Icmpv6 ∷ IpProtocol.Sctp ∷ []

-- The IP protocol with this number.
abbrev pub ip_protocol_of : ℕ → IpProtocol
ip_protocol_of n = numbered_by ip_protocol_number listed_ip_protocols IpProtocol.Other n
