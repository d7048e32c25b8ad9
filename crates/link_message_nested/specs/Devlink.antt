-- Ports of devlink: the kind and the payload of each value.
use Rattle.std.specs.Prelude.{[], string_bytes, ◌++◌, ◌∷◌}
use Rattle.netlink_packet_core.specs.Attributes.{Attribute, proper_kind}
use Rattle.netlink_packet_core.specs.Families.{attribute}
use Rattle.netlink_packet_core.specs.Numbers.{le4}
use Rattle.attribute_tables_grammar.specs.LookUps.{HasNoRow}
use Rattle.link_message_grammar.specs.NestedTables.{devlink_port}
use Rattle.link_message_nested.specs.declared.devlink.DevlinkPort.{DevlinkPort}
use Rattle.link_message_nested.specs.declared.devlink.DevlinkPort.TheVariants.{BusName, DevName, PortIndex, Other}

-- The kind and the payload of a value.
abbrev pub devlink_port_entry : DevlinkPort → Attribute
devlink_port_entry (BusName s) = attribute 1 (string_bytes s ++ 0 ∷ [])
devlink_port_entry (DevName s) = attribute 2 (string_bytes s ++ 0 ∷ [])
devlink_port_entry (PortIndex n) = attribute 3 (le4 n)
devlink_port_entry (Other a) = a

-- The value is the variant that its row names: a kind with a row isn't kept as `Other`.
abbrev pub devlink_port_names_row : DevlinkPort → Type 0
devlink_port_names_row (Other a) = HasNoRow devlink_port (proper_kind a.kind)
devlink_port_names_row _ = Unit {0}
