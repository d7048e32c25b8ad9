-- The header and the padding of an attribute, written over a byte string.
use Rattle.std.specs.Prelude.{ℕ, ◌+◌, ◌-◌, List, ◌++◌, take, drop}
use Rattle.netlink_packet_core_grammar.specs.Attributes.{nla_align, attribute_header, zeros}

-- The byte string b with the header and the padding of an attribute with this kind and payload size; the bytes of the
-- payload and those after the padding are kept.
abbrev pub with_header : ℕ → ℕ → List ℕ → List ℕ
with_header kind size b =
    attribute_header (4 + size) kind ++
    (take size (drop 4 b) ++ (zeros (nla_align (4 + size) - (4 + size)) ++ drop (nla_align (4 + size)) b))
