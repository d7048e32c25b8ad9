-- The data of ip6gre, ip6gretap and ip6erspan: the kind and the payload of each value.
use Rattle.std.specs.Prelude.{◌≡◌, ◌∷◌, []}
use Rattle.std.specs.Net.Addr.{ipv6_octets}
use Rattle.netlink_packet_core.specs.Attributes.{Attribute, proper_kind}
use Rattle.netlink_packet_core.specs.Numbers.{be2, be4, le2, le4}
use Rattle.link_info_types.specs.GreTypes.{gre_io_flags_bits, gre_encap_flags_bits, gre_encap_type_number}
use Rattle.link_info_types.specs.GreTypes.{gre_encap_type_of, er_span_dir_number, er_span_dir_of}
use Rattle.link_info_grammar.specs.Families.{gre6}
use Rattle.attribute_tables_grammar.specs.LookUps.{HasNoRow}
use Rattle.netlink_packet_core.specs.Families.{attribute}
use Rattle.link_info_tunnels.specs.declared.gre6.InfoGre6.{InfoGre6}
use Rattle.link_info_tunnels.specs.declared.gre6.InfoGre6.TheVariants.{Link, IFlags, OFlags, IKey, OKey, Local, Remote}
use Rattle.link_info_tunnels.specs.declared.gre6.InfoGre6.TheVariants.{Ttl, Tos, EncapLimit, FlowLabel, EncapType}
use Rattle.link_info_tunnels.specs.declared.gre6.InfoGre6.TheVariants.{EncapFlags, SourcePort, DestinationPort}
use Rattle.link_info_tunnels.specs.declared.gre6.InfoGre6.TheVariants.{CollectMetadata, FwMask, ErSpanIndex, ErSpanVer}
use Rattle.link_info_tunnels.specs.declared.gre6.InfoGre6.TheVariants.{ErSpanDir, ErSpanHwId, Other}

-- The attribute of a value.
abbrev pub gre6_entry : InfoGre6 → Attribute
gre6_entry (Link n) = attribute 1 (le4 n)
gre6_entry (IFlags f) = attribute 2 (be2 (gre_io_flags_bits f))
gre6_entry (OFlags f) = attribute 3 (be2 (gre_io_flags_bits f))
gre6_entry (IKey n) = attribute 4 (be4 n)
gre6_entry (OKey n) = attribute 5 (be4 n)
gre6_entry (Local a) = attribute 6 (ipv6_octets a)
gre6_entry (Remote a) = attribute 7 (ipv6_octets a)
gre6_entry (Ttl n) = attribute 8 (n ∷ [])
gre6_entry (Tos n) = attribute 9 (n ∷ [])
gre6_entry (EncapLimit n) = attribute 11 (n ∷ [])
gre6_entry (FlowLabel n) = attribute 12 (be4 n)
gre6_entry (EncapType t) = attribute 14 (le2 (gre_encap_type_number t))
gre6_entry (EncapFlags f) = attribute 15 (le2 (gre_encap_flags_bits f))
gre6_entry (SourcePort n) = attribute 16 (be2 n)
gre6_entry (DestinationPort n) = attribute 17 (be2 n)
gre6_entry CollectMetadata = attribute 18 []
gre6_entry (FwMask n) = attribute 20 (le4 n)
gre6_entry (ErSpanIndex n) = attribute 21 (le4 n)
gre6_entry (ErSpanVer n) = attribute 22 (n ∷ [])
gre6_entry (ErSpanDir d) = attribute 23 (er_span_dir_number d ∷ [])
gre6_entry (ErSpanHwId n) = attribute 24 (le2 n)
gre6_entry (Other a) = a

-- The value is the variant of its row: a listed encapsulation or direction is no `Other`, and neither is an attribute
-- whose kind has a row.
abbrev pub gre6_is_row_variant : InfoGre6 → Type 0
gre6_is_row_variant (EncapType t) = t ≡ gre_encap_type_of (gre_encap_type_number t)
gre6_is_row_variant (ErSpanDir d) = d ≡ er_span_dir_of (er_span_dir_number d)
gre6_is_row_variant (Other a) = HasNoRow gre6 (proper_kind a.kind)
gre6_is_row_variant _ = Unit {0}
