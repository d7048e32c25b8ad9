-- Values of `InfoRmNet` with equal attributes are equal.
use Rattle.std.proofs.Common.{[], ◌∷◌, refl, Option, take, drop}
use Rattle.netlink_packet_core.specs.Attributes.{Attribute}
use Rattle.attribute_tables_grammar.specs.LookUps.{line_at}
use Rattle.link_info_grammar.specs.Families.{rmnet}
use Rattle.link_info_devices.specs.declared.rmnet.InfoRmNet.{InfoRmNet}
use Rattle.link_info_devices.specs.declared.rmnet.InfoRmNet.TheVariants.{MuxId, Flags, Other}
use Rattle.link_info_devices.specs.Rmnet.{rmnet_entry, rmnet_is_row_variant}
use Rattle.link_info_devices.specs.contracts.rmnet.InfoRmNetPartialEq.TheImpl as equality
use Rattle.link_info_devices.specs.contracts.rmnet.InfoRmNetEq.TheImpl.Laws.{laws-law}
use Rattle.link_message.specs.Injective.{IsInjective}
use Rattle.link_message.proofs.Decoders.{RoundTrip, injective_by, value_of, round_trips, le2_of, le4_of}

-- The value that an attribute encodes.
abbrev value : Attribute → Option InfoRmNet
value = value_of (line_at rmnet) Other (
    (1, λ p. MuxId (le2_of p)) ∷
    (2, λ p. Flags (record { flags = record { 0 = le4_of (take 4 p) }; mask = record { 0 = le4_of (drop 4 p) } })) ∷ [])

round_trip : RoundTrip rmnet_entry rmnet_is_row_variant value
round_trip (Other a) h = rw h refl
round_trip (Flags f) h = simp round_trips
round_trip v h = simp round_trips cc

pub rmnet_injective : IsInjective (equality.ghosts).eq rmnet_entry rmnet_is_row_variant
rmnet_injective = injective_by _ laws-law.refl _ _ value round_trip
