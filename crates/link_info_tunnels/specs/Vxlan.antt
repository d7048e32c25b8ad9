-- The data of vxlan: the kind and the payload of each value.
use Rattle.std.specs.Prelude.{◌≡◌, ◌∷◌, ◌++◌, []}
use Rattle.std.specs.Net.Addr.{ipv4_octets, ipv6_octets}
use Rattle.netlink_packet_core.specs.Attributes.{Attribute, proper_kind}
use Rattle.netlink_packet_core.specs.Numbers.{be2, be4, be8, le4}
use Rattle.netlink_packet_core.specs.Booleans.{boolean_byte}
use Rattle.link_info_types.specs.VxlanTypes.{vxlan_df_number, vxlan_df_of}
use Rattle.link_info_grammar.specs.Families.{vxlan}
use Rattle.attribute_tables_grammar.specs.LookUps.{HasNoRow}
use Rattle.netlink_packet_core.specs.Families.{attribute}
use Rattle.link_info_tunnels.specs.declared.vxlan.InfoVxlan.{InfoVxlan}
use Rattle.link_info_tunnels.specs.declared.vxlan.InfoVxlan.TheVariants.{Id, Group, Link, Local, Ttl, Tos, Learning}
use Rattle.link_info_tunnels.specs.declared.vxlan.InfoVxlan.TheVariants.{Ageing, Limit, PortRange, Proxy, Rsc, L2Miss}
use Rattle.link_info_tunnels.specs.declared.vxlan.InfoVxlan.TheVariants.{L3Miss, Port, Group6, Local6, UDPCsum}
use Rattle.link_info_tunnels.specs.declared.vxlan.InfoVxlan.TheVariants.{UDPZeroCsumTX, UDPZeroCsumRX, RemCsumTX}
use Rattle.link_info_tunnels.specs.declared.vxlan.InfoVxlan.TheVariants.{RemCsumRX, Gbp, RemCsumNoPartial}
use Rattle.link_info_tunnels.specs.declared.vxlan.InfoVxlan.TheVariants.{CollectMetadata, Label, Gpe, TtlInheritFlag}
use Rattle.link_info_tunnels.specs.declared.vxlan.InfoVxlan.TheVariants.{TtlInherit, Df, Vnifilter, Localbypass}
use Rattle.link_info_tunnels.specs.declared.vxlan.InfoVxlan.TheVariants.{LabelPolicy, ReservedBits, McRoute, Other}

-- The attribute of a value.
abbrev pub vxlan_entry : InfoVxlan → Attribute
vxlan_entry (Id n) = attribute 1 (le4 n)
vxlan_entry (Group a) = attribute 2 (ipv4_octets a)
vxlan_entry (Link n) = attribute 3 (le4 n)
vxlan_entry (Local a) = attribute 4 (ipv4_octets a)
vxlan_entry (Ttl n) = attribute 5 (n ∷ [])
vxlan_entry (Tos n) = attribute 6 (n ∷ [])
vxlan_entry (Learning b) = attribute 7 (boolean_byte b)
vxlan_entry (Ageing n) = attribute 8 (le4 n)
vxlan_entry (Limit n) = attribute 9 (le4 n)
vxlan_entry (PortRange r) = attribute 10 (be2 r.0 ++ be2 r.1)
vxlan_entry (Proxy b) = attribute 11 (boolean_byte b)
vxlan_entry (Rsc b) = attribute 12 (boolean_byte b)
vxlan_entry (L2Miss b) = attribute 13 (boolean_byte b)
vxlan_entry (L3Miss b) = attribute 14 (boolean_byte b)
vxlan_entry (Port n) = attribute 15 (be2 n)
vxlan_entry (Group6 a) = attribute 16 (ipv6_octets a)
vxlan_entry (Local6 a) = attribute 17 (ipv6_octets a)
vxlan_entry (UDPCsum b) = attribute 18 (boolean_byte b)
vxlan_entry (UDPZeroCsumTX b) = attribute 19 (boolean_byte b)
vxlan_entry (UDPZeroCsumRX b) = attribute 20 (boolean_byte b)
vxlan_entry (RemCsumTX b) = attribute 21 (boolean_byte b)
vxlan_entry (RemCsumRX b) = attribute 22 (boolean_byte b)
vxlan_entry Gbp = attribute 23 []
vxlan_entry RemCsumNoPartial = attribute 24 []
vxlan_entry (CollectMetadata b) = attribute 25 (boolean_byte b)
vxlan_entry (Label n) = attribute 26 (be4 n)
vxlan_entry Gpe = attribute 27 []
vxlan_entry TtlInheritFlag = attribute 28 []
vxlan_entry (TtlInherit n) = attribute 28 (n ∷ [])
vxlan_entry (Df d) = attribute 29 (vxlan_df_number d ∷ [])
vxlan_entry (Vnifilter b) = attribute 30 (boolean_byte b)
vxlan_entry (Localbypass b) = attribute 31 (boolean_byte b)
vxlan_entry (LabelPolicy n) = attribute 32 (le4 n)
vxlan_entry (ReservedBits n) = attribute 33 (be8 n)
vxlan_entry (McRoute b) = attribute 34 (boolean_byte b)
vxlan_entry (Other a) = a

-- The value is the variant of its row: a listed setting is no `Other`, and neither is an attribute whose kind has a
-- row.
abbrev pub vxlan_is_row_variant : InfoVxlan → Type 0
vxlan_is_row_variant (Df d) = d ≡ vxlan_df_of (vxlan_df_number d)
vxlan_is_row_variant (Other a) = HasNoRow vxlan (proper_kind a.kind)
vxlan_is_row_variant _ = Unit {0}
