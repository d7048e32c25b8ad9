-- Values of `InfoVti` with equal attributes are equal.
use Rattle.std.proofs.Common.{[], ◌∷◌, refl, Option}
use Rattle.netlink_packet_core.specs.Attributes.{Attribute}
use Rattle.attribute_tables_grammar.specs.LookUps.{line_at}
use Rattle.link_info_grammar.specs.Families.{vti}
use Rattle.link_info_tunnels.specs.declared.vti.InfoVti.{InfoVti}
use Rattle.link_info_tunnels.specs.declared.vti.InfoVti.TheVariants.{Link, IKey, OKey, Local, Remote, FwMark, Other}
use Rattle.link_info_tunnels.specs.Vti.{vti_entry, vti_is_row_variant}
use Rattle.link_info_tunnels.specs.contracts.vti.InfoVtiPartialEq.TheImpl as equality
use Rattle.link_info_tunnels.specs.contracts.vti.InfoVtiEq.TheImpl.Laws.{laws-law}
use Rattle.link_message.specs.Injective.{IsInjective}
use Rattle.link_message.proofs.Decoders.{RoundTrip, injective_by, value_of, round_trips, be4_of, ip_of, le4_of}

-- The value that an attribute encodes.
abbrev value : Attribute → Option InfoVti
value = value_of (line_at vti) Other (
    (1, λ p. Link (le4_of p)) ∷
    (2, λ p. IKey (be4_of p)) ∷
    (3, λ p. OKey (be4_of p)) ∷
    (4, λ p. Local (ip_of p)) ∷
    (5, λ p. Remote (ip_of p)) ∷
    (6, λ p. FwMark (le4_of p)) ∷ [])

round_trip : RoundTrip vti_entry vti_is_row_variant value
round_trip (Other a) h = rw h refl
round_trip v h = simp round_trips cc

pub vti_injective : IsInjective (equality.ghosts).eq vti_entry vti_is_row_variant
vti_injective = injective_by _ laws-law.refl _ _ value round_trip
