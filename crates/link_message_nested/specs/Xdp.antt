-- XDP programs of a link: the kind and the payload of each value.
use Rattle.std.specs.Prelude.{[], ◌∷◌, ◌≡◌}
use Rattle.netlink_packet_core.specs.Attributes.{Attribute, proper_kind}
use Rattle.netlink_packet_core.specs.Families.{attribute}
use Rattle.netlink_packet_core.specs.Numbers.{le4, signed_bits}
use Rattle.attribute_tables_grammar.specs.LookUps.{HasNoRow}
use Rattle.link_message_grammar.specs.NestedTables.{xdp}
use Rattle.link_message_types.specs.XdpTypes.{xdp_attached_number, xdp_attached_of}
use Rattle.link_message_nested.specs.declared.xdp.LinkXdp.{LinkXdp}
use Rattle.link_message_nested.specs.declared.xdp.LinkXdp.TheVariants.{Fd, Attached, Flags, ProgId, DrvProgId}
use Rattle.link_message_nested.specs.declared.xdp.LinkXdp.TheVariants.{SkbProgId, HwProgId, ExpectedFd, Other}

-- The kind and the payload of a value.
abbrev pub link_xdp_entry : LinkXdp → Attribute
link_xdp_entry (Fd z) = attribute 1 (le4 (signed_bits z))
link_xdp_entry (Attached v) = attribute 2 (xdp_attached_number v ∷ [])
link_xdp_entry (Flags n) = attribute 3 (le4 n)
link_xdp_entry (ProgId n) = attribute 4 (le4 n)
link_xdp_entry (DrvProgId n) = attribute 5 (le4 n)
link_xdp_entry (SkbProgId n) = attribute 6 (le4 n)
link_xdp_entry (HwProgId n) = attribute 7 (le4 n)
link_xdp_entry (ExpectedFd n) = attribute 8 (le4 n)
link_xdp_entry (Other a) = a

-- The value is the variant that its row names: a kind with a row isn't kept as `Other`, nor a named number as `Other`.
abbrev pub link_xdp_names_row : LinkXdp → Type 0
link_xdp_names_row (Attached v) = v ≡ xdp_attached_of (xdp_attached_number v)
link_xdp_names_row (Other a) = HasNoRow xdp (proper_kind a.kind)
link_xdp_names_row _ = Unit {0}
