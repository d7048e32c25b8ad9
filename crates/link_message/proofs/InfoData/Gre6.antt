-- Values of `InfoGre6` with equal attributes are equal.
use Rattle.std.proofs.Common.{[], ◌∷◌, refl, Option}
use Rattle.netlink_packet_core.specs.Attributes.{Attribute}
use Rattle.attribute_tables_grammar.specs.LookUps.{line_at}
use Rattle.link_info_grammar.specs.Families.{gre6}
use Rattle.link_info_tunnels.specs.declared.gre6.InfoGre6.{InfoGre6}
use Rattle.link_info_tunnels.specs.declared.gre6.InfoGre6.TheVariants.{Link, IFlags, OFlags, IKey, OKey, Local, Remote, Ttl, Tos, EncapLimit, FlowLabel, EncapType, EncapFlags, SourcePort, DestinationPort, CollectMetadata, FwMask, ErSpanIndex, ErSpanVer, ErSpanDir, ErSpanHwId, Other}
use Rattle.link_info_types.specs.GreTypes.{er_span_dir_of, gre_encap_type_of}
use Rattle.link_info_tunnels.specs.Gre6.{gre6_entry, gre6_is_row_variant}
use Rattle.link_info_tunnels.specs.contracts.gre6.InfoGre6PartialEq.TheImpl as equality
use Rattle.link_info_tunnels.specs.contracts.gre6.InfoGre6Eq.TheImpl.Laws.{laws-law}
use Rattle.link_message.specs.Injective.{IsInjective}
use Rattle.link_message.proofs.Decoders.{RoundTrip, injective_by, value_of, round_trips, be2_of, be4_of, byte_of, flag_of, ipv6_of, le2_of, le4_of}

-- The value that an attribute encodes.
abbrev value : Attribute → Option InfoGre6
value = value_of (line_at gre6) Other (
    (1, λ p. Link (le4_of p)) ∷
    (2, λ p. IFlags (record { 0 = be2_of p })) ∷
    (3, λ p. OFlags (record { 0 = be2_of p })) ∷
    (4, λ p. IKey (be4_of p)) ∷
    (5, λ p. OKey (be4_of p)) ∷
    (6, λ p. Local (ipv6_of p)) ∷
    (7, λ p. Remote (ipv6_of p)) ∷
    (8, λ p. Ttl (byte_of p)) ∷
    (9, λ p. Tos (byte_of p)) ∷
    (11, λ p. EncapLimit (byte_of p)) ∷
    (12, λ p. FlowLabel (be4_of p)) ∷
    (14, λ p. EncapType (gre_encap_type_of (le2_of p))) ∷
    (15, λ p. EncapFlags (record { 0 = le2_of p })) ∷
    (16, λ p. SourcePort (be2_of p)) ∷
    (17, λ p. DestinationPort (be2_of p)) ∷
    (18, flag_of CollectMetadata) ∷
    (20, λ p. FwMask (le4_of p)) ∷
    (21, λ p. ErSpanIndex (le4_of p)) ∷
    (22, λ p. ErSpanVer (byte_of p)) ∷
    (23, λ p. ErSpanDir (er_span_dir_of (byte_of p))) ∷
    (24, λ p. ErSpanHwId (le2_of p)) ∷ [])

round_trip : RoundTrip gre6_entry gre6_is_row_variant value
round_trip (Other a) h = rw h refl
round_trip v h = simp round_trips cc

pub gre6_injective : IsInjective (equality.ghosts).eq gre6_entry gre6_is_row_variant
gre6_injective = injective_by _ laws-law.refl _ _ value round_trip
