-- Bytes as text: in hex, with colons between them, in quotes, as addresses.
use Rattle.std.specs.Prelude.{ℕ, ◌+◌, ◌==◌, ◌&&◌, ◌||◌, nat_le, nat_lt, Bool, true, List, [], ◌∷◌, ◌++◌, codes, cond}
use Rattle.std.specs.Prelude.{length, take, max, flat_map}
use Rattle.std.specs.Net.Addr.{segments_of}
use Rattle.std.specs.Net.Text.{ipv4_text, ipv6_text}
use Rattle.netlink_packet_core_grammar.specs.Texts.{without_nul}
use Rattle.link_lines_values.specs.Digits.{hex_byte}

-- Bytes in hex, without separators.
abbrev pub hex_text : List ℕ → List ℕ
hex_text bytes = flat_map hex_byte bytes

-- A space and bytes in hex, without separators; nothing for no bytes.
abbrev pub bytes_text : List ℕ → List ℕ
bytes_text [] = []
bytes_text (byte ∷ bytes) = 32 ∷ hex_text (byte ∷ bytes)

-- A byte in hex with a colon before it.
abbrev pub colon_byte : ℕ → List ℕ
colon_byte byte = 58 ∷ hex_byte byte

-- Bytes in hex with colons between them.
abbrev pub colons : List ℕ → List ℕ
colons [] = []
colons (byte ∷ bytes) = hex_byte byte ++ flat_map colon_byte bytes

-- A space and bytes with colons between them; nothing for no bytes.
abbrev pub hardware_text : List ℕ → List ℕ
hardware_text [] = []
hardware_text (byte ∷ bytes) = 32 ∷ colons (byte ∷ bytes)

-- Whether all bytes are zero.
abbrev pub is_zero : List ℕ → Bool
is_zero [] = true
is_zero (byte ∷ bytes) = (byte == 0) && is_zero bytes

-- The number of bytes without the zeros at the end.
abbrev pub count_without_zeros : List ℕ → ℕ
count_without_zeros [] = 0
count_without_zeros (byte ∷ bytes) = cond (is_zero (byte ∷ bytes)) 0 (1 + count_without_zeros bytes)

-- An address in a longer field: with colons, without the zeros at the end from the 7th byte on.
abbrev pub padded_address : List ℕ → List ℕ
padded_address bytes = colons (take (max 6 (count_without_zeros bytes)) bytes)

-- A byte between quotes: `\"`, `\\`, and `\xnn` for a byte under 32 or from 127 on.
abbrev pub escaped : ℕ → List ℕ
escaped byte =
    cond ((byte == 34) || (byte == 92)) (92 ∷ byte ∷ [])
    (cond (nat_le 32 byte && nat_lt byte 127) (byte ∷ []) (92 ∷ 120 ∷ hex_byte byte))

-- A text in quotes, without its last NUL.
abbrev pub quoted : List ℕ → List ℕ
quoted bytes = 34 ∷ (flat_map escaped (without_nul bytes) ++ 34 ∷ [])

-- A text in quotes, without the NULs at its end.
abbrev pub padded_text : List ℕ → List ℕ
padded_text bytes = 34 ∷ (flat_map escaped (take (count_without_zeros bytes) bytes) ++ 34 ∷ [])

-- The word `on` if a byte isn't zero, else `off`.
abbrev pub boolean_text : List ℕ → List ℕ
boolean_text bytes = cond (is_zero bytes) (codes "off") (codes "on")

-- A space and an address of 4 bytes (IPv4) or 16 (IPv6); other sizes as bytes.
abbrev pub address_text : List ℕ → List ℕ
address_text bytes =
    cond (length bytes == 4) (32 ∷ ipv4_text bytes)
    (cond (length bytes == 16) (32 ∷ ipv6_text (segments_of bytes)) (bytes_text bytes))
