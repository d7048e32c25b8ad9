-- Whole lists of attributes: attributes up to the end, with any padding; and the padding that lines show.
use Rattle.std.specs.Prelude.{ℕ, zero, suc, ◌-◌, ◌&&◌, nat_le, Bool, true, false, cond, List, [], ◌∷◌, length, take, drop}
use Rattle.std.specs.Prelude.{Option, Some, None}
use Rattle.netlink_packet_core_grammar.specs.Attributes.{Attribute, attribute_length, first_attribute, nla_align}
use Rattle.link_lines_values.specs.Bytes.{is_zero}

-- Whether there is an attribute.
abbrev pub is_attribute : Option (Attribute × List ℕ) → Bool
is_attribute None = false
is_attribute (Some x) = true

-- The length of an attribute with its padding.
abbrev pub padded_length : Option (Attribute × List ℕ) → ℕ
padded_length None = 0
padded_length (Some x) = nla_align (attribute_length x.0)

-- Whether the bytes after the first `skip` are attributes up to the end.
unfoldable pub is_whole_after : ℕ → List ℕ → Bool
is_whole_after skip [] = true
is_whole_after (suc skip) (b ∷ bytes) = is_whole_after skip bytes
is_whole_after zero (b ∷ bytes) =
    is_attribute (first_attribute (b ∷ bytes)) &&
    is_whole_after (padded_length (first_attribute (b ∷ bytes)) - 1) bytes

-- Whether the bytes are attributes up to the end. Padding may have any bytes, and after the last attribute may be cut.
abbrev pub is_whole : List ℕ → Bool
is_whole bytes = is_whole_after 0 bytes

-- The padding after the attribute of this length at the start of the bytes, or what there is of it.
abbrev pub padding_after : ℕ → List ℕ → List ℕ
padding_after n bytes = drop n (take (nla_align n) bytes)

-- Whether the attribute of this length at the start of the bytes is followed by its whole padding, all zeros.
abbrev pub is_padded : ℕ → List ℕ → Bool
is_padded n bytes = nat_le (nla_align n) (length bytes) && is_zero (padding_after n bytes)

-- The padding after the attribute of this length at the start of the bytes that lines show: if some is missing, or a byte
-- isn't zero.
abbrev pub shown_padding : ℕ → List ℕ → Option (List ℕ)
shown_padding n bytes = cond (is_padded n bytes) None (Some (padding_after n bytes))
