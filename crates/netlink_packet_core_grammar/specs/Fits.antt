-- Whether an attribute's length fits the 2 bytes of its header.
use Rattle.std.specs.Prelude.{nat_le, Bool}
use Rattle.netlink_packet_core_grammar.specs.Attributes.{Attribute, attribute_length}

-- The attribute's length fits the 2 bytes of its header.
abbrev pub attribute_fits : Attribute → Bool
attribute_fits e = nat_le (attribute_length e) 65535
