-- A header's bytes are read as the header.
use Rattle.std.proofs.Common.{◌≡◌, ℕ, List, ◌++◌, length, refl}
use Rattle.netlink_packet_core_grammar.proofs.Numbers.{from_le2, from_le4}
use Rattle.netlink_packet_core_grammar.specs.Numbers.{u16_at, u32_at, le2, le4}
use Rattle.netlink_packet_core_messages.specs.declared.header.NetlinkHeader.{NetlinkHeader}
use Rattle.netlink_packet_core_messages.specs.Headers.{header_of, header_text}

pub length_at : (h : NetlinkHeader) (r : List ℕ) → u32_at 0 (header_text h ++ r) ≡ h.length
unfolding u32_at header_text le4 le2
length_at h r = from_le4 h.length

pub type_at : (h : NetlinkHeader) (r : List ℕ) → u16_at 4 (header_text h ++ r) ≡ h.message_type
unfolding u16_at header_text le4 le2
type_at h r = from_le2 h.message_type

flags_at : (h : NetlinkHeader) (r : List ℕ) → u16_at 6 (header_text h ++ r) ≡ h.flags
unfolding u16_at header_text le4 le2
flags_at h r = from_le2 h.flags

sequence_at : (h : NetlinkHeader) (r : List ℕ) → u32_at 8 (header_text h ++ r) ≡ h.sequence_number
unfolding u32_at header_text le4 le2
sequence_at h r = from_le4 h.sequence_number

port_at : (h : NetlinkHeader) (r : List ℕ) → u32_at 12 (header_text h ++ r) ≡ h.port_number
unfolding u32_at header_text le4 le2
port_at h r = from_le4 h.port_number

pub header_at : (h : NetlinkHeader) (r : List ℕ) → header_of (header_text h ++ r) ≡ h
unfolding header_of
header_at h r = rw (length_at h r, type_at h r, flags_at h r, sequence_at h r, port_at h r) refl

pub length-header_text : (h : NetlinkHeader) → length (header_text h) ≡ 16
unfolding header_text le4 le2
length-header_text h = refl

pub ruleset header_sizes = (length-header_text)
