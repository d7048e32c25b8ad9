-- The header of a link message (rtnetlink.h, struct ifinfomsg).
use Rattle.std.specs.Prelude.{ℕ, List, [], ◌∷◌, ◌++◌}
use Rattle.netlink_packet_core.specs.Numbers.{le2, le4}
use Rattle.link_message_types.specs.AddressFamilies.{address_family_number}
use Rattle.link_message_types.specs.LinkFlagTypes.{link_flags_bits}
use Rattle.link_message_types.specs.LinkLayerTypes.{link_layer_type_number}
use Rattle.link_message_types.specs.declared.header.LinkHeader.{LinkHeader}

-- The 16 bytes that a header is written as.
unfoldable pub link_header_bytes : LinkHeader → List ℕ
link_header_bytes h =
    (address_family_number h.interface_family ∷ 0 ∷ [])
    ++ (le2 (link_layer_type_number h.link_layer_type)
    ++ (le4 h.index ++ (le4 (link_flags_bits h.flags) ++ le4 (link_flags_bits h.change_mask))))
