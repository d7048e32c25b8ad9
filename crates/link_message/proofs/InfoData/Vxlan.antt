-- Values of `InfoVxlan` with equal attributes are equal.
use Rattle.std.proofs.Common.{List, [], ◌∷◌, refl, Option, ℕ}
use Rattle.netlink_packet_core.specs.Attributes.{Attribute}
use Rattle.attribute_tables_grammar.specs.LookUps.{line_at}
use Rattle.link_info_grammar.specs.Families.{vxlan}
use Rattle.link_info_tunnels.specs.declared.vxlan.InfoVxlan.TheVariants.{Id, Group, Link, Local, Ttl, Tos, Learning, Ageing, Limit, PortRange, Proxy, Rsc, L2Miss, L3Miss, Port, Group6, Local6, UDPCsum, UDPZeroCsumTX, UDPZeroCsumRX, RemCsumTX, RemCsumRX, Gbp, RemCsumNoPartial, CollectMetadata, Label, Gpe, TtlInheritFlag, TtlInherit, Df, Vnifilter, Localbypass, LabelPolicy, ReservedBits, McRoute, Other}
use Rattle.link_info_tunnels.specs.declared.vxlan.InfoVxlan.{InfoVxlan}
use Rattle.link_info_types.specs.VxlanTypes.{vxlan_df_of}
use Rattle.link_info_tunnels.specs.Vxlan.{vxlan_entry, vxlan_is_row_variant}
use Rattle.link_info_tunnels.specs.contracts.vxlan.InfoVxlanPartialEq.TheImpl as equality
use Rattle.link_info_tunnels.specs.contracts.vxlan.InfoVxlanEq.TheImpl.Laws.{laws-law}
use Rattle.link_message.specs.Injective.{IsInjective}
use Rattle.link_message.proofs.Decoders.{RoundTrip, injective_by, value_of, round_trips, be2_of, be4_of, be8_of, boolean_of, byte_of, flag_of, ipv4_of, ipv6_of, le4_of, range_of}

-- Without payload it is the flag, and with a byte the number.
abbrev ttl_inherit : List ℕ → InfoVxlan
ttl_inherit [] = flag_of TtlInheritFlag []
ttl_inherit (n ∷ p) = TtlInherit (byte_of (n ∷ p))

-- The value that an attribute encodes.
abbrev value : Attribute → Option InfoVxlan
value = value_of (line_at vxlan) Other (
    (1, λ p. Id (le4_of p)) ∷
    (2, λ p. Group (ipv4_of p)) ∷
    (3, λ p. Link (le4_of p)) ∷
    (4, λ p. Local (ipv4_of p)) ∷
    (5, λ p. Ttl (byte_of p)) ∷
    (6, λ p. Tos (byte_of p)) ∷
    (7, λ p. Learning (boolean_of p)) ∷
    (8, λ p. Ageing (le4_of p)) ∷
    (9, λ p. Limit (le4_of p)) ∷
    (10, λ p. PortRange (range_of p)) ∷
    (11, λ p. Proxy (boolean_of p)) ∷
    (12, λ p. Rsc (boolean_of p)) ∷
    (13, λ p. L2Miss (boolean_of p)) ∷
    (14, λ p. L3Miss (boolean_of p)) ∷
    (15, λ p. Port (be2_of p)) ∷
    (16, λ p. Group6 (ipv6_of p)) ∷
    (17, λ p. Local6 (ipv6_of p)) ∷
    (18, λ p. UDPCsum (boolean_of p)) ∷
    (19, λ p. UDPZeroCsumTX (boolean_of p)) ∷
    (20, λ p. UDPZeroCsumRX (boolean_of p)) ∷
    (21, λ p. RemCsumTX (boolean_of p)) ∷
    (22, λ p. RemCsumRX (boolean_of p)) ∷
    (23, flag_of Gbp) ∷
    (24, flag_of RemCsumNoPartial) ∷
    (25, λ p. CollectMetadata (boolean_of p)) ∷
    (26, λ p. Label (be4_of p)) ∷
    (27, flag_of Gpe) ∷
    (28, ttl_inherit) ∷
    (29, λ p. Df (vxlan_df_of (byte_of p))) ∷
    (30, λ p. Vnifilter (boolean_of p)) ∷
    (31, λ p. Localbypass (boolean_of p)) ∷
    (32, λ p. LabelPolicy (le4_of p)) ∷
    (33, λ p. ReservedBits (be8_of p)) ∷
    (34, λ p. McRoute (boolean_of p)) ∷ [])

round_trip : RoundTrip vxlan_entry vxlan_is_row_variant value
round_trip (Other a) h = rw h refl
round_trip v h = simp round_trips cc

pub vxlan_injective : IsInjective (equality.ghosts).eq vxlan_entry vxlan_is_row_variant
vxlan_injective = injective_by _ laws-law.refl _ _ value round_trip
