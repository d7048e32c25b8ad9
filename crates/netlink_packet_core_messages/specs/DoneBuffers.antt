-- The storage of a `DoneBuffer`.
pub use Rattle.netlink_packet_core_messages.specs.NetlinkBuffers.{storage, view_of}
