-- The data of gre, gretap and erspan: the kind and the payload of each value.
use Rattle.std.specs.Prelude.{◌≡◌, ◌∷◌, []}
use Rattle.std.specs.Net.Addr.{ipv4_octets}
use Rattle.netlink_packet_core.specs.Attributes.{Attribute, proper_kind}
use Rattle.netlink_packet_core.specs.Numbers.{be2, be4, le2, le4}
use Rattle.netlink_packet_core.specs.Booleans.{boolean_byte}
use Rattle.link_info_types.specs.GreTypes.{gre_io_flags_bits, gre_encap_flags_bits, gre_encap_type_number}
use Rattle.link_info_types.specs.GreTypes.{gre_encap_type_of, er_span_dir_number, er_span_dir_of}
use Rattle.link_info_grammar.specs.Families.{gre}
use Rattle.attribute_tables_grammar.specs.LookUps.{HasNoRow}
use Rattle.netlink_packet_core.specs.Families.{attribute}
use Rattle.link_info_tunnels.specs.declared.gre.InfoGre.{InfoGre}
use Rattle.link_info_tunnels.specs.declared.gre.InfoGre.TheVariants.{Link, IFlags, OFlags, IKey, OKey, Local, Remote}
use Rattle.link_info_tunnels.specs.declared.gre.InfoGre.TheVariants.{Ttl, Tos, PathMTUDiscovery, EncapType, EncapFlags}
use Rattle.link_info_tunnels.specs.declared.gre.InfoGre.TheVariants.{SourcePort, DestinationPort, CollectMetadata}
use Rattle.link_info_tunnels.specs.declared.gre.InfoGre.TheVariants.{FwMask, ErSpanIndex, ErSpanVer, ErSpanDir}
use Rattle.link_info_tunnels.specs.declared.gre.InfoGre.TheVariants.{ErSpanHwId, Other}

-- The attribute of a value.
abbrev pub gre_entry : InfoGre → Attribute
gre_entry (Link n) = attribute 1 (le4 n)
gre_entry (IFlags f) = attribute 2 (be2 (gre_io_flags_bits f))
gre_entry (OFlags f) = attribute 3 (be2 (gre_io_flags_bits f))
gre_entry (IKey n) = attribute 4 (be4 n)
gre_entry (OKey n) = attribute 5 (be4 n)
gre_entry (Local a) = attribute 6 (ipv4_octets a)
gre_entry (Remote a) = attribute 7 (ipv4_octets a)
gre_entry (Ttl n) = attribute 8 (n ∷ [])
gre_entry (Tos n) = attribute 9 (n ∷ [])
gre_entry (PathMTUDiscovery b) = attribute 10 (boolean_byte b)
gre_entry (EncapType t) = attribute 14 (le2 (gre_encap_type_number t))
gre_entry (EncapFlags f) = attribute 15 (le2 (gre_encap_flags_bits f))
gre_entry (SourcePort n) = attribute 16 (be2 n)
gre_entry (DestinationPort n) = attribute 17 (be2 n)
gre_entry CollectMetadata = attribute 18 []
gre_entry (FwMask n) = attribute 20 (le4 n)
gre_entry (ErSpanIndex n) = attribute 21 (le4 n)
gre_entry (ErSpanVer n) = attribute 22 (n ∷ [])
gre_entry (ErSpanDir d) = attribute 23 (er_span_dir_number d ∷ [])
gre_entry (ErSpanHwId n) = attribute 24 (le2 n)
gre_entry (Other a) = a

-- The value is the variant of its row: a listed encapsulation or direction is no `Other`, and neither is an attribute
-- whose kind has a row.
abbrev pub gre_is_row_variant : InfoGre → Type 0
gre_is_row_variant (EncapType t) = t ≡ gre_encap_type_of (gre_encap_type_number t)
gre_is_row_variant (ErSpanDir d) = d ≡ er_span_dir_of (er_span_dir_number d)
gre_is_row_variant (Other a) = HasNoRow gre (proper_kind a.kind)
gre_is_row_variant _ = Unit {0}
