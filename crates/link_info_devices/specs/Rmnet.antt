-- The data of rmnet: the kind and the payload of each value.
use Rattle.std.specs.Prelude.{ℕ, List, ◌++◌}
use Rattle.netlink_packet_core.specs.Attributes.{Attribute, proper_kind}
use Rattle.netlink_packet_core.specs.Numbers.{le2, le4}
use Rattle.link_info_types.specs.RmNetTypes.{rm_net_flags_bits}
use Rattle.link_info_grammar.specs.Families.{rmnet}
use Rattle.attribute_tables_grammar.specs.LookUps.{HasNoRow}
use Rattle.netlink_packet_core.specs.Families.{attribute}
use Rattle.link_info_devices.specs.declared.rmnet.InfoRmNet.{InfoRmNet}
use Rattle.link_info_devices.specs.declared.rmnet.InfoRmNet.TheVariants.{MuxId, Flags, Other}
use Rattle.link_info_devices.specs.declared.rmnet.InfoRmNetFlags.{InfoRmNetFlags}

-- The flags, followed by their mask.
abbrev pub flags_bytes : InfoRmNetFlags → List ℕ
flags_bytes f = le4 (rm_net_flags_bits f.flags) ++ le4 (rm_net_flags_bits f.mask)

-- The attribute of a value.
abbrev pub rmnet_entry : InfoRmNet → Attribute
rmnet_entry (MuxId n) = attribute 1 (le2 n)
rmnet_entry (Flags f) = attribute 2 (flags_bytes f)
rmnet_entry (Other a) = a

-- The value is the variant of its row: an attribute whose kind has a row is no `Other`.
abbrev pub rmnet_is_row_variant : InfoRmNet → Type 0
rmnet_is_row_variant (Other a) = HasNoRow rmnet (proper_kind a.kind)
rmnet_is_row_variant _ = Unit {0}
