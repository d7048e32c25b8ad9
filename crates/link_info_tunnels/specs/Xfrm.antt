-- The data of xfrm: the kind and the payload of each value.
use Rattle.netlink_packet_core.specs.Attributes.{Attribute, proper_kind}
use Rattle.netlink_packet_core.specs.Numbers.{le4}
use Rattle.link_info_grammar.specs.Families.{xfrm}
use Rattle.attribute_tables_grammar.specs.LookUps.{HasNoRow}
use Rattle.netlink_packet_core.specs.Families.{attribute}
use Rattle.link_info_tunnels.specs.declared.xfrm.InfoXfrm.{InfoXfrm}
use Rattle.link_info_tunnels.specs.declared.xfrm.InfoXfrm.TheVariants.{Link, IfId, Other}

-- The attribute of a value.
abbrev pub xfrm_entry : InfoXfrm → Attribute
xfrm_entry (Link n) = attribute 1 (le4 n)
xfrm_entry (IfId n) = attribute 2 (le4 n)
xfrm_entry (Other a) = a

-- The value is the variant of its row: an attribute whose kind has a row is no `Other`.
abbrev pub xfrm_is_row_variant : InfoXfrm → Type 0
xfrm_is_row_variant (Other a) = HasNoRow xfrm (proper_kind a.kind)
xfrm_is_row_variant _ = Unit {0}
