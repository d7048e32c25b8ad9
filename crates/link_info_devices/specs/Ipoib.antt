-- The data of ipoib: the kind and the payload of each value.
use Rattle.std.specs.Prelude.{◌≡◌}
use Rattle.netlink_packet_core.specs.Attributes.{Attribute, proper_kind}
use Rattle.netlink_packet_core.specs.Numbers.{le2}
use Rattle.link_info_types.specs.IpoibTypes.{ipoib_mode_number, ipoib_mode_of}
use Rattle.link_info_grammar.specs.Families.{ipoib}
use Rattle.attribute_tables_grammar.specs.LookUps.{HasNoRow}
use Rattle.netlink_packet_core.specs.Families.{attribute}
use Rattle.link_info_devices.specs.declared.ipoib.InfoIpoib.{InfoIpoib}
use Rattle.link_info_devices.specs.declared.ipoib.InfoIpoib.TheVariants.{Pkey, Mode, UmCast, Other}

-- The attribute of a value.
abbrev pub ipoib_entry : InfoIpoib → Attribute
ipoib_entry (Pkey n) = attribute 1 (le2 n)
ipoib_entry (Mode m) = attribute 2 (le2 (ipoib_mode_number m))
ipoib_entry (UmCast n) = attribute 3 (le2 n)
ipoib_entry (Other a) = a

-- The value is the variant of its row: a listed mode is no `Other`, and neither is an attribute whose kind has a row.
abbrev pub ipoib_is_row_variant : InfoIpoib → Type 0
ipoib_is_row_variant (Mode m) = m ≡ ipoib_mode_of (ipoib_mode_number m)
ipoib_is_row_variant (Other a) = HasNoRow ipoib (proper_kind a.kind)
ipoib_is_row_variant _ = Unit {0}
