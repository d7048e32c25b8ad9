-- Values of `InfoIpoib` with equal attributes are equal.
use Rattle.std.proofs.Common.{[], ◌∷◌, refl, Option}
use Rattle.netlink_packet_core.specs.Attributes.{Attribute}
use Rattle.attribute_tables_grammar.specs.LookUps.{line_at}
use Rattle.link_info_grammar.specs.Families.{ipoib}
use Rattle.link_info_devices.specs.declared.ipoib.InfoIpoib.{InfoIpoib}
use Rattle.link_info_devices.specs.declared.ipoib.InfoIpoib.TheVariants.{Pkey, Mode, UmCast, Other}
use Rattle.link_info_types.specs.IpoibTypes.{ipoib_mode_of}
use Rattle.link_info_devices.specs.Ipoib.{ipoib_entry, ipoib_is_row_variant}
use Rattle.link_info_devices.specs.contracts.ipoib.InfoIpoibPartialEq.TheImpl as equality
use Rattle.link_info_devices.specs.contracts.ipoib.InfoIpoibEq.TheImpl.Laws.{laws-law}
use Rattle.link_message.specs.Injective.{IsInjective}
use Rattle.link_message.proofs.Decoders.{RoundTrip, injective_by, value_of, round_trips, le2_of}

-- The value that an attribute encodes.
abbrev value : Attribute → Option InfoIpoib
value = value_of (line_at ipoib) Other (
    (1, λ p. Pkey (le2_of p)) ∷
    (2, λ p. Mode (ipoib_mode_of (le2_of p))) ∷
    (3, λ p. UmCast (le2_of p)) ∷ [])

round_trip : RoundTrip ipoib_entry ipoib_is_row_variant value
round_trip (Other a) h = rw h refl
round_trip v h = simp round_trips cc

pub ipoib_injective : IsInjective (equality.ghosts).eq ipoib_entry ipoib_is_row_variant
ipoib_injective = injective_by _ laws-law.refl _ _ value round_trip
