-- Values of `DpllPin` with equal attributes are equal.
use Rattle.std.proofs.Common.{[], ◌∷◌, refl, Option}
use Rattle.netlink_packet_core.specs.Attributes.{Attribute}
use Rattle.attribute_tables_grammar.specs.LookUps.{line_at}
use Rattle.link_message_grammar.specs.NestedTables.{dpll_pin}
use Rattle.link_message_nested.specs.declared.dpll.DpllPin.TheVariants.{PinId, Other}
use Rattle.link_message_nested.specs.declared.dpll.DpllPin.{DpllPin}
use Rattle.link_message_nested.specs.Dpll.{dpll_pin_entry, dpll_pin_names_row}
use Rattle.link_message_nested.specs.contracts.dpll.DpllPinPartialEq.TheImpl as equality
use Rattle.link_message_nested.specs.contracts.dpll.DpllPinEq.TheImpl.Laws.{laws-law}
use Rattle.link_message.specs.Injective.{IsInjective}
use Rattle.link_message.proofs.Decoders.{RoundTrip, injective_by, value_of, round_trips, le4_of}

-- The value that an attribute encodes.
abbrev value : Attribute → Option DpllPin
value = value_of (line_at dpll_pin) Other (
    (1, λ p. PinId (le4_of p)) ∷ [])

round_trip : RoundTrip dpll_pin_entry dpll_pin_names_row value
round_trip (Other a) h = rw h refl
round_trip v h = simp round_trips cc

pub dpll_injective : IsInjective (equality.ghosts).eq dpll_pin_entry dpll_pin_names_row
dpll_injective = injective_by _ laws-law.refl _ _ value round_trip
