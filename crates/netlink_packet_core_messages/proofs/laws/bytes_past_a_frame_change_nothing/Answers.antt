use Rattle.netlink_packet_core_messages.proofs.Past.{past_frame}
use Rattle.netlink_packet_core_messages.proofs.laws.bytes_past_a_frame_change_nothing.Goals as goal

pub returns : goal.returns
returns g c = past_frame g.I.NetlinkDeserializable.reads c.args.frame.now c.args.rest.now c.requires
