use Rattle.netlink_packet_core_messages.proofs.Written.{message_written}
use Rattle.netlink_packet_core_messages.proofs.laws.read_frames_keep_their_header.Goals as goal

pub returns : goal.returns
returns g c inner_body h =
    message_written g.I.NetlinkDeserializable.reads g.I.NetlinkDeserializable.value g.I.NetlinkSerializable.entry inner_body c.args.frame.now c.args.message.now (λ i. (c.type_inv.frame i).fits) c.requires h
