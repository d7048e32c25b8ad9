-- The data of batadv: the kind and the payload of each value.
use Rattle.std.specs.Prelude.{[], ◌∷◌, ◌++◌, string_bytes}
use Rattle.netlink_packet_core.specs.Attributes.{Attribute, proper_kind}
use Rattle.link_info_grammar.specs.Families.{batadv}
use Rattle.attribute_tables_grammar.specs.LookUps.{HasNoRow}
use Rattle.netlink_packet_core.specs.Families.{attribute}
use Rattle.link_info_devices.specs.declared.batadv.InfoBatAdv.{InfoBatAdv}
use Rattle.link_info_devices.specs.declared.batadv.InfoBatAdv.TheVariants.{AlgoName, Other}

-- The attribute of a value.
abbrev pub batadv_entry : InfoBatAdv → Attribute
batadv_entry (AlgoName s) = attribute 1 (string_bytes s ++ 0 ∷ [])
batadv_entry (Other a) = a

-- The value is the variant of its row: an attribute whose kind has a row is no `Other`.
abbrev pub batadv_is_row_variant : InfoBatAdv → Type 0
batadv_is_row_variant (Other a) = HasNoRow batadv (proper_kind a.kind)
batadv_is_row_variant _ = Unit {0}
