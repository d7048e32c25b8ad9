-- The data of bareudp: the kind and the payload of each value.
use Rattle.std.specs.Prelude.{◌≡◌, []}
use Rattle.netlink_packet_core.specs.Attributes.{Attribute, proper_kind}
use Rattle.netlink_packet_core.specs.Ethernet.{ethernet_protocol_number, ethernet_protocol_of}
use Rattle.netlink_packet_core.specs.Numbers.{be2, le2}
use Rattle.link_info_grammar.specs.Families.{bareudp}
use Rattle.attribute_tables_grammar.specs.LookUps.{HasNoRow}
use Rattle.netlink_packet_core.specs.Families.{attribute}
use Rattle.link_info_tunnels.specs.declared.bareudp.InfoBareUdp.{InfoBareUdp}
use Rattle.link_info_tunnels.specs.declared.bareudp.InfoBareUdp.TheVariants.{Port, Ethertype, SrcPortMin}
use Rattle.link_info_tunnels.specs.declared.bareudp.InfoBareUdp.TheVariants.{MultiprotoMode, Other}

-- The attribute of a value.
abbrev pub bareudp_entry : InfoBareUdp → Attribute
bareudp_entry (Port n) = attribute 1 (be2 n)
bareudp_entry (Ethertype p) = attribute 2 (be2 (ethernet_protocol_number p))
bareudp_entry (SrcPortMin n) = attribute 3 (le2 n)
bareudp_entry MultiprotoMode = attribute 4 []
bareudp_entry (Other a) = a

-- The value is the variant of its row: a listed protocol is no `Other`, and neither is an attribute whose kind has a
-- row.
abbrev pub bareudp_is_row_variant : InfoBareUdp → Type 0
bareudp_is_row_variant (Ethertype p) = p ≡ ethernet_protocol_of (ethernet_protocol_number p)
bareudp_is_row_variant (Other a) = HasNoRow bareudp (proper_kind a.kind)
bareudp_is_row_variant _ = Unit {0}
