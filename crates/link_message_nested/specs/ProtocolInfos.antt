-- Protocol information of IPv6: each value is the attribute that it keeps.
use Rattle.netlink_packet_core.specs.Attributes.{Attribute}
use Rattle.link_message_nested.specs.declared.proto_info.LinkProtoInfoInet6.{LinkProtoInfoInet6}
use Rattle.link_message_nested.specs.declared.proto_info.LinkProtoInfoInet6.TheVariants.{Other}

-- The kind and the payload of a value.
abbrev pub link_proto_info_inet_6_entry : LinkProtoInfoInet6 → Attribute
link_proto_info_inet_6_entry (Other a) = a
