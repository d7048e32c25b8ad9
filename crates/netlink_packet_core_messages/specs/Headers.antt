-- The header of a frame (netlink.h, struct nlmsghdr), and its bytes.
use Rattle.std.specs.Prelude.{ℕ, List, ◌++◌}
use Rattle.netlink_packet_core_messages.specs.declared.header.NetlinkHeader.{NetlinkHeader}
use Rattle.netlink_packet_core_grammar.specs.Numbers.{u16_at, u32_at, le2, le4}

-- The header at the start of a frame.
unfoldable pub header_of : List ℕ → NetlinkHeader
header_of b =
    record {
      length = u32_at 0 b;
      message_type = u16_at 4 b;
      flags = u16_at 6 b;
      sequence_number =
          u32_at 8 b;
      port_number = u32_at 12 b;
    }

-- The 16 bytes of a header.
unfoldable pub header_text : NetlinkHeader → List ℕ
header_text h = le4 h.length ++ (le2 h.message_type ++ (le2 h.flags ++ (le4 h.sequence_number ++ le4 h.port_number)))
