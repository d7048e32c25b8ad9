-- The body of an address message (linux/if_addr.h, struct ifaddrmsg), and its bytes.
use Rattle.std.specs.Prelude.{ℕ, List, ◌∷◌, ◌++◌}
use Rattle.netlink_packet_core.specs.Numbers.{le4}
use Rattle.netlink_packet_core_tests.specs.declared.address_messages.Address.{Address}
use Rattle.netlink_packet_core_tests.specs.declared.address_messages.AddressHeader.{AddressHeader}

-- The 8 bytes of a header.
unfoldable pub header_text : AddressHeader → List ℕ
header_text h = h.family ∷ h.prefix_len ∷ h.flags ∷ h.scope ∷ le4 h.index

-- The bytes of a body: a header, and the attributes as they are.
abbrev pub address_text : Address → List ℕ
address_text a = header_text a.header ++ a.attributes
