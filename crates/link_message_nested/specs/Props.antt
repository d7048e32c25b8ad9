-- Alternative names of a link: the kind and the payload of each value.
use Rattle.std.specs.Prelude.{[], string_bytes, ◌++◌, ◌∷◌}
use Rattle.netlink_packet_core.specs.Attributes.{Attribute, proper_kind}
use Rattle.netlink_packet_core.specs.Families.{attribute}
use Rattle.attribute_tables_grammar.specs.LookUps.{HasNoRow}
use Rattle.link_message_grammar.specs.NestedTables.{props}
use Rattle.link_message_nested.specs.declared.prop.Prop.{Prop}
use Rattle.link_message_nested.specs.declared.prop.Prop.TheVariants.{AltIfName, Other}

-- The kind and the payload of a value.
abbrev pub prop_entry : Prop → Attribute
prop_entry (AltIfName s) = attribute 53 (string_bytes s ++ 0 ∷ [])
prop_entry (Other a) = a

-- The value is the variant that its row names: a kind with a row isn't kept as `Other`.
abbrev pub prop_names_row : Prop → Type 0
prop_names_row (Other a) = HasNoRow props (proper_kind a.kind)
prop_names_row _ = Unit {0}
