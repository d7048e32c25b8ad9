-- Values of `InfoBareUdp` with equal attributes are equal.
use Rattle.std.proofs.Common.{[], ◌∷◌, refl, Option}
use Rattle.netlink_packet_core.specs.Attributes.{Attribute}
use Rattle.attribute_tables_grammar.specs.LookUps.{line_at}
use Rattle.link_info_grammar.specs.Families.{bareudp}
use Rattle.link_info_tunnels.specs.declared.bareudp.InfoBareUdp.TheVariants.{Port, Ethertype, SrcPortMin, MultiprotoMode, Other}
use Rattle.link_info_tunnels.specs.declared.bareudp.InfoBareUdp.{InfoBareUdp}
use Rattle.netlink_packet_core.specs.Ethernet.{ethernet_protocol_of}
use Rattle.link_info_tunnels.specs.Bareudp.{bareudp_entry, bareudp_is_row_variant}
use Rattle.link_info_tunnels.specs.contracts.bareudp.InfoBareUdpPartialEq.TheImpl as equality
use Rattle.link_info_tunnels.specs.contracts.bareudp.InfoBareUdpEq.TheImpl.Laws.{laws-law}
use Rattle.link_message.specs.Injective.{IsInjective}
use Rattle.link_message.proofs.Decoders.{RoundTrip, injective_by, value_of, round_trips, be2_of, flag_of, le2_of}

-- The value that an attribute encodes.
abbrev value : Attribute → Option InfoBareUdp
value = value_of (line_at bareudp) Other (
    (1, λ p. Port (be2_of p)) ∷
    (2, λ p. Ethertype (ethernet_protocol_of (be2_of p))) ∷
    (3, λ p. SrcPortMin (le2_of p)) ∷
    (4, flag_of MultiprotoMode) ∷ [])

round_trip : RoundTrip bareudp_entry bareudp_is_row_variant value
round_trip (Other a) h = rw h refl
round_trip v h = simp round_trips cc

pub bareudp_injective : IsInjective (equality.ghosts).eq bareudp_entry bareudp_is_row_variant
bareudp_injective = injective_by _ laws-law.refl _ _ value round_trip
