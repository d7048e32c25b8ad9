-- Payloads that hold no attributes, as bytes.
use Rattle.std.specs.Prelude.{ℕ, List, [], ◌∷◌, ◌++◌}
use Rattle.std.specs.Net.Addr.{ipv4_octets, ipv6_octets}
use Rattle.netlink_packet_core_grammar.specs.Numbers.{le2, le4, le8, be2, be4, be8}
use Rattle.netlink_packet_core_grammar.specs.Booleans.{boolean_byte}
use Rattle.netlink_packet_core_numbers.specs.Addresses.{ip_octets}
use Rattle.netlink_packet_core_attributes.specs.declared.payload.Field.{Field}

-- The bytes of a payload that holds no attributes.
abbrev pub field_bytes : Field → List ℕ
field_bytes Field.Empty = []
field_bytes (Field.U8 n) = n ∷ []
field_bytes (Field.U16 n) = le2 n
field_bytes (Field.U32 n) = le4 n
field_bytes (Field.U64 n) = le8 n
field_bytes (Field.U16Be n) = be2 n
field_bytes (Field.U32Be n) = be4 n
field_bytes (Field.U64Be n) = be8 n
field_bytes (Field.Bool b) = boolean_byte b
field_bytes (Field.Range r) = be2 r.0 ++ be2 r.1
field_bytes (Field.U32Pair m n) = le4 m ++ le4 n
field_bytes (Field.Ipv4 a) = ipv4_octets a
field_bytes (Field.Ipv6 a) = ipv6_octets a
field_bytes (Field.Ip a) = ip_octets a
field_bytes (Field.Text t) = t.now ++ 0 ∷ []
field_bytes (Field.Bytes b) = b.now
