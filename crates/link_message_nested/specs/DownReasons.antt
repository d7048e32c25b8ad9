-- The reasons why a protocol keeps a link down: the kind and the payload of each value.
use Rattle.netlink_packet_core.specs.Attributes.{Attribute, proper_kind}
use Rattle.netlink_packet_core.specs.Families.{attribute}
use Rattle.netlink_packet_core.specs.Numbers.{le4}
use Rattle.attribute_tables_grammar.specs.LookUps.{HasNoRow}
use Rattle.link_message_grammar.specs.NestedTables.{protocol_down_reason}
use Rattle.link_message_nested.specs.declared.down_reason.LinkProtocolDownReason.{LinkProtocolDownReason}
use Rattle.link_message_nested.specs.declared.down_reason.LinkProtocolDownReason.TheVariants.{Mask, Value, Other}

-- The kind and the payload of a value.
abbrev pub link_protocol_down_reason_entry : LinkProtocolDownReason → Attribute
link_protocol_down_reason_entry (Mask n) = attribute 1 (le4 n)
link_protocol_down_reason_entry (Value n) = attribute 2 (le4 n)
link_protocol_down_reason_entry (Other a) = a

-- The value is the variant that its row names: a kind with a row isn't kept as `Other`.
abbrev pub link_protocol_down_reason_names_row : LinkProtocolDownReason → Type 0
link_protocol_down_reason_names_row (Other a) = HasNoRow protocol_down_reason (proper_kind a.kind)
link_protocol_down_reason_names_row _ = Unit {0}
