-- The data of amt: the kind and the payload of each value.
use Rattle.std.specs.Prelude.{◌≡◌}
use Rattle.netlink_packet_core.specs.Addresses.{ip_octets, HasAddressLength}
use Rattle.netlink_packet_core.specs.Attributes.{Attribute, proper_kind}
use Rattle.netlink_packet_core.specs.Numbers.{be2, le4}
use Rattle.link_info_types.specs.AmtTypes.{amt_mode_number, amt_mode_of}
use Rattle.link_info_grammar.specs.Families.{amt}
use Rattle.attribute_tables_grammar.specs.LookUps.{HasNoRow}
use Rattle.netlink_packet_core.specs.Families.{attribute}
use Rattle.link_info_tunnels.specs.declared.amt.InfoAmt.{InfoAmt}
use Rattle.link_info_tunnels.specs.declared.amt.InfoAmt.TheVariants.{Mode, RelayPort, GatewayPort, Link, LocalIp}
use Rattle.link_info_tunnels.specs.declared.amt.InfoAmt.TheVariants.{RemoteIp, DiscoveryIp, MaxTunnels, Other}

-- The attribute of a value.
abbrev pub amt_entry : InfoAmt → Attribute
amt_entry (Mode m) = attribute 1 (le4 (amt_mode_number m))
amt_entry (RelayPort n) = attribute 2 (be2 n)
amt_entry (GatewayPort n) = attribute 3 (be2 n)
amt_entry (Link n) = attribute 4 (le4 n)
amt_entry (LocalIp a) = attribute 5 (ip_octets a)
amt_entry (RemoteIp a) = attribute 6 (ip_octets a)
amt_entry (DiscoveryIp a) = attribute 7 (ip_octets a)
amt_entry (MaxTunnels n) = attribute 8 (le4 n)
amt_entry (Other a) = a

-- The value is the variant of its row: a listed mode is no `Other`, and neither is an attribute whose kind has a row.
abbrev pub amt_is_row_variant : InfoAmt → Type 0
amt_is_row_variant (Mode m) = m ≡ amt_mode_of (amt_mode_number m)
amt_is_row_variant (LocalIp a) = HasAddressLength a
amt_is_row_variant (RemoteIp a) = HasAddressLength a
amt_is_row_variant (DiscoveryIp a) = HasAddressLength a
amt_is_row_variant (Other a) = HasNoRow amt (proper_kind a.kind)
amt_is_row_variant _ = Unit {0}
