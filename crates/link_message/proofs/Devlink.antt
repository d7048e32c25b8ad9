-- Values of `DevlinkPort` with equal attributes are equal.
use Rattle.std.proofs.Common.{[], ◌∷◌, refl, arith}
use Rattle.attribute_tables_grammar.specs.LookUps.{line_at}
use Rattle.link_message_grammar.specs.NestedTables.{devlink_port}
use Rattle.link_message_nested.specs.declared.devlink.DevlinkPort.TheVariants.{BusName, DevName, PortIndex, Other}
use Rattle.link_message_nested.specs.declared.devlink.DevlinkPort.{DevlinkPort}
use Rattle.link_message_nested.specs.Devlink.{devlink_port_entry, devlink_port_names_row}
use Rattle.link_message_nested.specs.contracts.devlink.DevlinkPortPartialEq.TheImpl as equality
use Rattle.link_message_nested.specs.contracts.devlink.DevlinkPortEq.TheImpl.Laws.{laws-law}
use Rattle.link_message.specs.Injective.{IsInjective}
use Rattle.link_message.proofs.Records.{string_same}
use Rattle.link_message.proofs.Decoders.{Decoders, Otherwise, RoundTripIfDecoded, injective_or, value_of, round_trips, le4_of}

-- The decoder of each kind whose value owns neither bytes nor text.
abbrev decoders : Decoders DevlinkPort
decoders = (3, λ p. PortIndex (le4_of p)) ∷ []

round_trip : RoundTripIfDecoded devlink_port_entry devlink_port_names_row (value_of (line_at devlink_port) Other decoders)
round_trip (Other a) h = rw h refl
round_trip v h = simp round_trips cc

otherwise : Otherwise (equality.ghosts).eq devlink_port_entry devlink_port_names_row (line_at devlink_port) decoders
otherwise (BusName x) (BusName y) l m i j d p q k e = string_same x y e
otherwise (DevName x) (DevName y) l m i j d p q k e = string_same x y e
otherwise v w l m i j d p q k e = absurd (first_of (omega arith, cc))

pub devlink_injective : IsInjective (equality.ghosts).eq devlink_port_entry devlink_port_names_row
devlink_injective = injective_or _ laws-law.refl _ _ (line_at devlink_port) Other decoders round_trip otherwise
