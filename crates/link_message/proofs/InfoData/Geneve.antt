-- Values of `InfoGeneve` with equal attributes are equal.
use Rattle.std.proofs.Common.{[], ◌∷◌, refl, Option}
use Rattle.netlink_packet_core.specs.Attributes.{Attribute}
use Rattle.attribute_tables_grammar.specs.LookUps.{line_at}
use Rattle.link_info_grammar.specs.Families.{geneve}
use Rattle.link_info_tunnels.specs.declared.geneve.InfoGeneve.TheVariants.{Id, Remote, Ttl, Tos, Port, CollectMetadata, Remote6, UdpCsum, UdpZeroCsum6Tx, UdpZeroCsum6Rx, Label, TtlInherit, Df, InnerProtoInherit, Local, Local6, Other}
use Rattle.link_info_tunnels.specs.declared.geneve.InfoGeneve.{InfoGeneve}
use Rattle.link_info_types.specs.GeneveTypes.{geneve_df_of}
use Rattle.link_info_tunnels.specs.Geneve.{geneve_entry, geneve_is_row_variant}
use Rattle.link_info_tunnels.specs.contracts.geneve.InfoGenevePartialEq.TheImpl as equality
use Rattle.link_info_tunnels.specs.contracts.geneve.InfoGeneveEq.TheImpl.Laws.{laws-law}
use Rattle.link_message.specs.Injective.{IsInjective}
use Rattle.link_message.proofs.Decoders.{RoundTrip, injective_by, value_of, round_trips, be2_of, be4_of, boolean_of, byte_of, flag_of, ipv4_of, ipv6_of, le4_of}

-- The value that an attribute encodes.
abbrev value : Attribute → Option InfoGeneve
value = value_of (line_at geneve) Other (
    (1, λ p. Id (le4_of p)) ∷
    (2, λ p. Remote (ipv4_of p)) ∷
    (3, λ p. Ttl (byte_of p)) ∷
    (4, λ p. Tos (byte_of p)) ∷
    (5, λ p. Port (be2_of p)) ∷
    (6, flag_of CollectMetadata) ∷
    (7, λ p. Remote6 (ipv6_of p)) ∷
    (8, λ p. UdpCsum (boolean_of p)) ∷
    (9, λ p. UdpZeroCsum6Tx (boolean_of p)) ∷
    (10, λ p. UdpZeroCsum6Rx (boolean_of p)) ∷
    (11, λ p. Label (be4_of p)) ∷
    (12, λ p. TtlInherit (boolean_of p)) ∷
    (13, λ p. Df (geneve_df_of (byte_of p))) ∷
    (14, flag_of InnerProtoInherit) ∷
    (17, λ p. Local (ipv4_of p)) ∷
    (18, λ p. Local6 (ipv6_of p)) ∷ [])

round_trip : RoundTrip geneve_entry geneve_is_row_variant value
round_trip (Other a) h = rw h refl
round_trip v h = simp round_trips cc

pub geneve_injective : IsInjective (equality.ghosts).eq geneve_entry geneve_is_row_variant
geneve_injective = injective_by _ laws-law.refl _ _ value round_trip
