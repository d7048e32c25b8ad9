-- Pins of digital phase-locked loops: the kind and the payload of each value.
use Rattle.netlink_packet_core.specs.Attributes.{Attribute, proper_kind}
use Rattle.netlink_packet_core.specs.Families.{attribute}
use Rattle.netlink_packet_core.specs.Numbers.{le4}
use Rattle.attribute_tables_grammar.specs.LookUps.{HasNoRow}
use Rattle.link_message_grammar.specs.NestedTables.{dpll_pin}
use Rattle.link_message_nested.specs.declared.dpll.DpllPin.{DpllPin}
use Rattle.link_message_nested.specs.declared.dpll.DpllPin.TheVariants.{PinId, Other}

-- The kind and the payload of a value.
abbrev pub dpll_pin_entry : DpllPin → Attribute
dpll_pin_entry (PinId n) = attribute 1 (le4 n)
dpll_pin_entry (Other a) = a

-- The value is the variant that its row names: a kind with a row isn't kept as `Other`.
abbrev pub dpll_pin_names_row : DpllPin → Type 0
dpll_pin_names_row (Other a) = HasNoRow dpll_pin (proper_kind a.kind)
dpll_pin_names_row _ = Unit {0}
