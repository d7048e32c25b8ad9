-- The data of vti and vti6: the kind and the payload of each value.
use Rattle.netlink_packet_core.specs.Attributes.{Attribute, proper_kind}
use Rattle.netlink_packet_core.specs.Numbers.{be4, le4}
use Rattle.netlink_packet_core.specs.Addresses.{ip_octets, HasAddressLength}
use Rattle.link_info_grammar.specs.Families.{vti}
use Rattle.attribute_tables_grammar.specs.LookUps.{HasNoRow}
use Rattle.netlink_packet_core.specs.Families.{attribute}
use Rattle.link_info_tunnels.specs.declared.vti.InfoVti.{InfoVti}
use Rattle.link_info_tunnels.specs.declared.vti.InfoVti.TheVariants.{Link, IKey, OKey, Local, Remote, FwMark, Other}

-- The attribute of a value.
abbrev pub vti_entry : InfoVti → Attribute
vti_entry (Link n) = attribute 1 (le4 n)
vti_entry (IKey n) = attribute 2 (be4 n)
vti_entry (OKey n) = attribute 3 (be4 n)
vti_entry (Local a) = attribute 4 (ip_octets a)
vti_entry (Remote a) = attribute 5 (ip_octets a)
vti_entry (FwMark n) = attribute 6 (le4 n)
vti_entry (Other a) = a

-- The value is the variant of its row: an attribute whose kind has a row is no `Other`.
abbrev pub vti_is_row_variant : InfoVti → Type 0
vti_is_row_variant (Local a) = HasAddressLength a
vti_is_row_variant (Remote a) = HasAddressLength a
vti_is_row_variant (Other a) = HasNoRow vti (proper_kind a.kind)
vti_is_row_variant _ = Unit {0}
