-- Values of `Prop` with equal attributes are equal.
use Rattle.std.proofs.Common.{[], refl, arith}
use Rattle.attribute_tables_grammar.specs.LookUps.{line_at}
use Rattle.link_message_grammar.specs.NestedTables.{props}
use Rattle.link_message_nested.specs.declared.prop.Prop.TheVariants.{AltIfName, Other}
use Rattle.link_message_nested.specs.Props.{prop_entry, prop_names_row}
use Rattle.link_message_nested.specs.contracts.prop.PropPartialEq.TheImpl as equality
use Rattle.link_message_nested.specs.contracts.prop.PropEq.TheImpl.Laws.{laws-law}
use Rattle.link_message.specs.Injective.{IsInjective}
use Rattle.link_message.proofs.Records.{string_same}
use Rattle.link_message.proofs.Decoders.{Otherwise, RoundTripIfDecoded, injective_or, value_of, round_trips}

round_trip : RoundTripIfDecoded prop_entry prop_names_row (value_of (line_at props) Other [])
round_trip (Other a) h = rw h refl
round_trip v h = simp round_trips

otherwise : Otherwise (equality.ghosts).eq prop_entry prop_names_row (line_at props) []
otherwise (AltIfName x) (AltIfName y) l m i j d p q k e = string_same x y e
otherwise v w l m i j d p q k e = absurd (first_of (omega arith, cc))

pub props_injective : IsInjective (equality.ghosts).eq prop_entry prop_names_row
props_injective = injective_or _ laws-law.refl _ _ (line_at props) Other [] round_trip otherwise
