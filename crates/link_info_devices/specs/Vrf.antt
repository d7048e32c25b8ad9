-- The data of vrf: the kind and the payload of each value.
use Rattle.netlink_packet_core.specs.Attributes.{Attribute, proper_kind}
use Rattle.netlink_packet_core.specs.Numbers.{le4}
use Rattle.link_info_grammar.specs.Families.{vrf}
use Rattle.attribute_tables_grammar.specs.LookUps.{HasNoRow}
use Rattle.netlink_packet_core.specs.Families.{attribute}
use Rattle.link_info_devices.specs.declared.vrf.InfoVrf.{InfoVrf}
use Rattle.link_info_devices.specs.declared.vrf.InfoVrf.TheVariants.{TableId, Other}

-- The attribute of a value.
abbrev pub vrf_entry : InfoVrf → Attribute
vrf_entry (TableId n) = attribute 1 (le4 n)
vrf_entry (Other a) = a

-- The value is the variant of its row: an attribute whose kind has a row is no `Other`.
abbrev pub vrf_is_row_variant : InfoVrf → Type 0
vrf_is_row_variant (Other a) = HasNoRow vrf (proper_kind a.kind)
vrf_is_row_variant _ = Unit {0}
