-- The data of geneve: the kind and the payload of each value.
use Rattle.std.specs.Prelude.{◌≡◌, ◌∷◌, []}
use Rattle.std.specs.Net.Addr.{ipv4_octets, ipv6_octets}
use Rattle.netlink_packet_core.specs.Attributes.{Attribute, proper_kind}
use Rattle.netlink_packet_core.specs.Numbers.{be2, be4, le4}
use Rattle.netlink_packet_core.specs.Booleans.{boolean_byte}
use Rattle.link_info_types.specs.GeneveTypes.{geneve_df_number, geneve_df_of}
use Rattle.link_info_grammar.specs.Families.{geneve}
use Rattle.attribute_tables_grammar.specs.LookUps.{HasNoRow}
use Rattle.netlink_packet_core.specs.Families.{attribute}
use Rattle.link_info_tunnels.specs.declared.geneve.InfoGeneve.{InfoGeneve}
use Rattle.link_info_tunnels.specs.declared.geneve.InfoGeneve.TheVariants.{Id, Remote, Ttl, Tos, Port, CollectMetadata}
use Rattle.link_info_tunnels.specs.declared.geneve.InfoGeneve.TheVariants.{Remote6, UdpCsum, UdpZeroCsum6Tx}
use Rattle.link_info_tunnels.specs.declared.geneve.InfoGeneve.TheVariants.{UdpZeroCsum6Rx, Label, TtlInherit, Df}
use Rattle.link_info_tunnels.specs.declared.geneve.InfoGeneve.TheVariants.{InnerProtoInherit, Local, Local6, Other}

-- The attribute of a value.
abbrev pub geneve_entry : InfoGeneve → Attribute
geneve_entry (Id n) = attribute 1 (le4 n)
geneve_entry (Remote a) = attribute 2 (ipv4_octets a)
geneve_entry (Ttl n) = attribute 3 (n ∷ [])
geneve_entry (Tos n) = attribute 4 (n ∷ [])
geneve_entry (Port n) = attribute 5 (be2 n)
geneve_entry CollectMetadata = attribute 6 []
geneve_entry (Remote6 a) = attribute 7 (ipv6_octets a)
geneve_entry (UdpCsum b) = attribute 8 (boolean_byte b)
geneve_entry (UdpZeroCsum6Tx b) = attribute 9 (boolean_byte b)
geneve_entry (UdpZeroCsum6Rx b) = attribute 10 (boolean_byte b)
geneve_entry (Label n) = attribute 11 (be4 n)
geneve_entry (TtlInherit b) = attribute 12 (boolean_byte b)
geneve_entry (Df d) = attribute 13 (geneve_df_number d ∷ [])
geneve_entry InnerProtoInherit = attribute 14 []
geneve_entry (Local a) = attribute 17 (ipv4_octets a)
geneve_entry (Local6 a) = attribute 18 (ipv6_octets a)
geneve_entry (Other a) = a

-- The value is the variant of its row: a listed setting is no `Other`, and neither is an attribute whose kind has a
-- row.
abbrev pub geneve_is_row_variant : InfoGeneve → Type 0
geneve_is_row_variant (Df d) = d ≡ geneve_df_of (geneve_df_number d)
geneve_is_row_variant (Other a) = HasNoRow geneve (proper_kind a.kind)
geneve_is_row_variant _ = Unit {0}
