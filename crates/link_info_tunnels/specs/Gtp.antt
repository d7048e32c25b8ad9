-- The data of gtp: the kind and the payload of each value.
use Rattle.std.specs.Prelude.{◌≡◌, ◌∷◌, []}
use Rattle.std.specs.Net.Addr.{ipv4_octets, ipv6_octets}
use Rattle.netlink_packet_core.specs.Attributes.{Attribute, proper_kind}
use Rattle.netlink_packet_core.specs.Numbers.{le4}
use Rattle.netlink_packet_core.specs.Booleans.{boolean_byte}
use Rattle.link_info_types.specs.GtpTypes.{gtp_role_number, gtp_role_of}
use Rattle.link_info_grammar.specs.Families.{gtp}
use Rattle.attribute_tables_grammar.specs.LookUps.{HasNoRow}
use Rattle.netlink_packet_core.specs.Families.{attribute}
use Rattle.link_info_tunnels.specs.declared.gtp.InfoGtp.{InfoGtp}
use Rattle.link_info_tunnels.specs.declared.gtp.InfoGtp.TheVariants.{Fd0, Fd1, PdpHashsize, Role, CreateSockets}
use Rattle.link_info_tunnels.specs.declared.gtp.InfoGtp.TheVariants.{RestartCount, Local, Local6, Other}

-- The attribute of a value.
abbrev pub gtp_entry : InfoGtp → Attribute
gtp_entry (Fd0 n) = attribute 1 (le4 n)
gtp_entry (Fd1 n) = attribute 2 (le4 n)
gtp_entry (PdpHashsize n) = attribute 3 (le4 n)
gtp_entry (Role r) = attribute 4 (le4 (gtp_role_number r))
gtp_entry (CreateSockets b) = attribute 5 (boolean_byte b)
gtp_entry (RestartCount n) = attribute 6 (n ∷ [])
gtp_entry (Local a) = attribute 7 (ipv4_octets a)
gtp_entry (Local6 a) = attribute 8 (ipv6_octets a)
gtp_entry (Other a) = a

-- The value is the variant of its row: a listed role is no `Other`, and neither is an attribute whose kind has a row.
abbrev pub gtp_is_row_variant : InfoGtp → Type 0
gtp_is_row_variant (Role r) = r ≡ gtp_role_of (gtp_role_number r)
gtp_is_row_variant (Other a) = HasNoRow gtp (proper_kind a.kind)
gtp_is_row_variant _ = Unit {0}
