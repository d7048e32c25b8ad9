use Rattle.netlink_packet_core_messages.proofs.Sizes.{length-message_text}
use Rattle.netlink_packet_core_messages.proofs.message.NetlinkMessageEmitable.buffer_len.Goals as goal

pub returns : goal.returns
returns g c = rw (length-message_text g.I.NetlinkSerializable.entry c.args.self.now) c.buffer_len.ensures
