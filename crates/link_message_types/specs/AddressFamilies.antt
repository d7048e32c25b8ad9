-- The numbers of address families, and the tables of their attributes.
use Rattle.std.specs.Prelude.{ℕ, List, [], ◌∷◌}
use Rattle.netlink_packet_core.specs.Named.{numbered_by}
use Rattle.link_message_grammar.specs.LinkMessage.{Family, unspec, bridge, inet_6, other}
use Rattle.link_message_types.specs.declared.address_family.AddressFamily.{AddressFamily}

-- The number of an address family.
abbrev pub address_family_number : AddressFamily → ℕ
address_family_number AddressFamily.Unspec = 0
address_family_number AddressFamily.Unix = 1
address_family_number AddressFamily.Inet = 2
address_family_number AddressFamily.Bridge = 7
address_family_number AddressFamily.Inet6 = 10
address_family_number AddressFamily.Netlink = 16
address_family_number AddressFamily.Packet = 17
address_family_number AddressFamily.Mctp = 45
address_family_number (AddressFamily.Other n) = n

-- The address families with a variant of their own.
abbrev pub listed_address_families : List AddressFamily
listed_address_families =
    AddressFamily.Unspec ∷
    AddressFamily.Unix ∷
    AddressFamily.Inet ∷
    AddressFamily.Bridge ∷
    AddressFamily.Inet6 ∷
    AddressFamily.Netlink ∷
    AddressFamily.Packet ∷
    AddressFamily.Mctp ∷
    []

-- The address family of a number.
abbrev pub address_family_of : ℕ → AddressFamily
address_family_of n = numbered_by address_family_number listed_address_families AddressFamily.Other n

-- The family whose table the attributes have; it depends on the variant only.
abbrev pub table_family : AddressFamily → Family
table_family AddressFamily.Unspec = unspec
table_family AddressFamily.Bridge = bridge
table_family AddressFamily.Inet6 = inet_6
table_family _ = other
