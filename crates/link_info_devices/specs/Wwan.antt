-- The data of wwan: the kind and the payload of each value.
use Rattle.netlink_packet_core.specs.Attributes.{Attribute, proper_kind}
use Rattle.netlink_packet_core.specs.Numbers.{le4}
use Rattle.link_info_grammar.specs.Families.{wwan}
use Rattle.attribute_tables_grammar.specs.LookUps.{HasNoRow}
use Rattle.netlink_packet_core.specs.Families.{attribute}
use Rattle.link_info_devices.specs.declared.wwan.InfoWwan.{InfoWwan}
use Rattle.link_info_devices.specs.declared.wwan.InfoWwan.TheVariants.{LinkId, Other}

-- The attribute of a value.
abbrev pub wwan_entry : InfoWwan → Attribute
wwan_entry (LinkId n) = attribute 1 (le4 n)
wwan_entry (Other a) = a

-- The value is the variant of its row: an attribute whose kind has a row is no `Other`.
abbrev pub wwan_is_row_variant : InfoWwan → Type 0
wwan_is_row_variant (Other a) = HasNoRow wwan (proper_kind a.kind)
wwan_is_row_variant _ = Unit {0}
