use Rattle.netlink_packet_core_messages.proofs.Headers.{length-header_text}
use Rattle.netlink_packet_core_messages.proofs.Texts.{serialized}
use Rattle.netlink_packet_core_messages.proofs.message.NetlinkMessage.serialize.Goals as goal

pub returns : goal.returns
returns g c =
    rw (c.emit.ensures, c.serialize.ensures)
    (serialized c.args.buffer.now _ _ _ _ _ c.args.self.now.header.length (length-header_text c.args.self.now.header) c.split_at_mut-head.ensures.front c.split_at_mut-head.ensures.back c.split_at_mut-body.ensures.back c.requires.finalized.has_length)
