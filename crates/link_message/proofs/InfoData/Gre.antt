-- Values of `InfoGre` with equal attributes are equal.
use Rattle.std.proofs.Common.{[], ◌∷◌, refl, Option}
use Rattle.netlink_packet_core.specs.Attributes.{Attribute}
use Rattle.attribute_tables_grammar.specs.LookUps.{line_at}
use Rattle.link_info_grammar.specs.Families.{gre}
use Rattle.link_info_tunnels.specs.declared.gre.InfoGre.{InfoGre}
use Rattle.link_info_tunnels.specs.declared.gre.InfoGre.TheVariants.{Link, IFlags, OFlags, IKey, OKey, Local, Remote, Ttl, Tos, PathMTUDiscovery, EncapType, EncapFlags, SourcePort, DestinationPort, CollectMetadata, FwMask, ErSpanIndex, ErSpanVer, ErSpanDir, ErSpanHwId, Other}
use Rattle.link_info_types.specs.GreTypes.{er_span_dir_of, gre_encap_type_of}
use Rattle.link_info_tunnels.specs.Gre.{gre_entry, gre_is_row_variant}
use Rattle.link_info_tunnels.specs.contracts.gre.InfoGrePartialEq.TheImpl as equality
use Rattle.link_info_tunnels.specs.contracts.gre.InfoGreEq.TheImpl.Laws.{laws-law}
use Rattle.link_message.specs.Injective.{IsInjective}
use Rattle.link_message.proofs.Decoders.{RoundTrip, injective_by, value_of, round_trips, be2_of, be4_of, boolean_of, byte_of, flag_of, ipv4_of, le2_of, le4_of}

-- The value that an attribute encodes.
abbrev value : Attribute → Option InfoGre
value = value_of (line_at gre) Other (
    (1, λ p. Link (le4_of p)) ∷
    (2, λ p. IFlags (record { 0 = be2_of p })) ∷
    (3, λ p. OFlags (record { 0 = be2_of p })) ∷
    (4, λ p. IKey (be4_of p)) ∷
    (5, λ p. OKey (be4_of p)) ∷
    (6, λ p. Local (ipv4_of p)) ∷
    (7, λ p. Remote (ipv4_of p)) ∷
    (8, λ p. Ttl (byte_of p)) ∷
    (9, λ p. Tos (byte_of p)) ∷
    (10, λ p. PathMTUDiscovery (boolean_of p)) ∷
    (14, λ p. EncapType (gre_encap_type_of (le2_of p))) ∷
    (15, λ p. EncapFlags (record { 0 = le2_of p })) ∷
    (16, λ p. SourcePort (be2_of p)) ∷
    (17, λ p. DestinationPort (be2_of p)) ∷
    (18, flag_of CollectMetadata) ∷
    (20, λ p. FwMask (le4_of p)) ∷
    (21, λ p. ErSpanIndex (le4_of p)) ∷
    (22, λ p. ErSpanVer (byte_of p)) ∷
    (23, λ p. ErSpanDir (er_span_dir_of (byte_of p))) ∷
    (24, λ p. ErSpanHwId (le2_of p)) ∷ [])

round_trip : RoundTrip gre_entry gre_is_row_variant value
round_trip (Other a) h = rw h refl
round_trip v h = simp round_trips cc

pub gre_injective : IsInjective (equality.ghosts).eq gre_entry gre_is_row_variant
gre_injective = injective_by _ laws-law.refl _ _ value round_trip
