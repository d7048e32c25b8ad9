-- Values of `InfoVrf` with equal attributes are equal.
use Rattle.std.proofs.Common.{[], ◌∷◌, refl, Option}
use Rattle.netlink_packet_core.specs.Attributes.{Attribute}
use Rattle.attribute_tables_grammar.specs.LookUps.{line_at}
use Rattle.link_info_grammar.specs.Families.{vrf}
use Rattle.link_info_devices.specs.declared.vrf.InfoVrf.{InfoVrf}
use Rattle.link_info_devices.specs.declared.vrf.InfoVrf.TheVariants.{TableId, Other}
use Rattle.link_info_devices.specs.Vrf.{vrf_entry, vrf_is_row_variant}
use Rattle.link_info_devices.specs.contracts.vrf.InfoVrfPartialEq.TheImpl as equality
use Rattle.link_info_devices.specs.contracts.vrf.InfoVrfEq.TheImpl.Laws.{laws-law}
use Rattle.link_message.specs.Injective.{IsInjective}
use Rattle.link_message.proofs.Decoders.{RoundTrip, injective_by, value_of, round_trips, le4_of}

-- The value that an attribute encodes.
abbrev value : Attribute → Option InfoVrf
value = value_of (line_at vrf) Other (
    (1, λ p. TableId (le4_of p)) ∷ [])

round_trip : RoundTrip vrf_entry vrf_is_row_variant value
round_trip (Other a) h = rw h refl
round_trip v h = simp round_trips cc

pub vrf_injective : IsInjective (equality.ghosts).eq vrf_entry vrf_is_row_variant
vrf_injective = injective_by _ laws-law.refl _ _ value round_trip
