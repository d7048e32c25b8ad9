-- Values of `InfoGtp` with equal attributes are equal.
use Rattle.std.proofs.Common.{[], ◌∷◌, refl, Option}
use Rattle.netlink_packet_core.specs.Attributes.{Attribute}
use Rattle.attribute_tables_grammar.specs.LookUps.{line_at}
use Rattle.link_info_grammar.specs.Families.{gtp}
use Rattle.link_info_tunnels.specs.declared.gtp.InfoGtp.TheVariants.{Fd0, Fd1, PdpHashsize, Role, CreateSockets, RestartCount, Local, Local6, Other}
use Rattle.link_info_tunnels.specs.declared.gtp.InfoGtp.{InfoGtp}
use Rattle.link_info_types.specs.GtpTypes.{gtp_role_of}
use Rattle.link_info_tunnels.specs.Gtp.{gtp_entry, gtp_is_row_variant}
use Rattle.link_info_tunnels.specs.contracts.gtp.InfoGtpPartialEq.TheImpl as equality
use Rattle.link_info_tunnels.specs.contracts.gtp.InfoGtpEq.TheImpl.Laws.{laws-law}
use Rattle.link_message.specs.Injective.{IsInjective}
use Rattle.link_message.proofs.Decoders.{RoundTrip, injective_by, value_of, round_trips, boolean_of, byte_of, ipv4_of, ipv6_of, le4_of}

-- The value that an attribute encodes.
abbrev value : Attribute → Option InfoGtp
value = value_of (line_at gtp) Other (
    (1, λ p. Fd0 (le4_of p)) ∷
    (2, λ p. Fd1 (le4_of p)) ∷
    (3, λ p. PdpHashsize (le4_of p)) ∷
    (4, λ p. Role (gtp_role_of (le4_of p))) ∷
    (5, λ p. CreateSockets (boolean_of p)) ∷
    (6, λ p. RestartCount (byte_of p)) ∷
    (7, λ p. Local (ipv4_of p)) ∷
    (8, λ p. Local6 (ipv6_of p)) ∷ [])

round_trip : RoundTrip gtp_entry gtp_is_row_variant value
round_trip (Other a) h = rw h refl
round_trip v h = simp round_trips cc

pub gtp_injective : IsInjective (equality.ghosts).eq gtp_entry gtp_is_row_variant
gtp_injective = injective_by _ laws-law.refl _ _ value round_trip
