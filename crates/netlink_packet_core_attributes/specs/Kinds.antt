-- The two flags of an attribute's kind (netlink.h).
use Rattle.std.specs.Prelude.{ℕ, ◌+◌, ◌/◌, ◌%◌, Bool, ◌==◌, List}
use Rattle.netlink_packet_core_grammar.specs.Attributes.{proper_kind}
use Rattle.netlink_packet_core_grammar.specs.Bytes.{put_at}
use Rattle.netlink_packet_core_grammar.specs.Numbers.{le2}

-- The nested flag, the highest bit (NLA_F_NESTED).
abbrev pub has_nested_flag : ℕ → Bool
has_nested_flag k = k / 0x8000 % 2 == 1

-- The flag of network byte order, the second highest bit (NLA_F_NET_BYTEORDER).
abbrev pub has_byte_order_flag : ℕ → Bool
has_byte_order_flag k = k / 0x4000 % 2 == 1

-- The kind with the nested flag only.
abbrev pub with_nested_flag : ℕ → ℕ
with_nested_flag k = 0x8000 + proper_kind k

-- The kind with the flag of network byte order only.
abbrev pub with_byte_order_flag : ℕ → ℕ
with_byte_order_flag k = 0x4000 + proper_kind k

-- The bytes of an attribute, with this kind in their header.
abbrev pub with_kind : ℕ → List ℕ → List ℕ
with_kind k b = put_at 2 (le2 k) b
