-- Values of `InfoWwan` with equal attributes are equal.
use Rattle.std.proofs.Common.{[], ◌∷◌, refl, Option}
use Rattle.netlink_packet_core.specs.Attributes.{Attribute}
use Rattle.attribute_tables_grammar.specs.LookUps.{line_at}
use Rattle.link_info_grammar.specs.Families.{wwan}
use Rattle.link_info_devices.specs.declared.wwan.InfoWwan.{InfoWwan}
use Rattle.link_info_devices.specs.declared.wwan.InfoWwan.TheVariants.{LinkId, Other}
use Rattle.link_info_devices.specs.Wwan.{wwan_entry, wwan_is_row_variant}
use Rattle.link_info_devices.specs.contracts.wwan.InfoWwanPartialEq.TheImpl as equality
use Rattle.link_info_devices.specs.contracts.wwan.InfoWwanEq.TheImpl.Laws.{laws-law}
use Rattle.link_message.specs.Injective.{IsInjective}
use Rattle.link_message.proofs.Decoders.{RoundTrip, injective_by, value_of, round_trips, le4_of}

-- The value that an attribute encodes.
abbrev value : Attribute → Option InfoWwan
value = value_of (line_at wwan) Other (
    (1, λ p. LinkId (le4_of p)) ∷ [])

round_trip : RoundTrip wwan_entry wwan_is_row_variant value
round_trip (Other a) h = rw h refl
round_trip v h = simp round_trips cc

pub wwan_injective : IsInjective (equality.ghosts).eq wwan_entry wwan_is_row_variant
wwan_injective = injective_by _ laws-law.refl _ _ value round_trip
