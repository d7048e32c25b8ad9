use Rattle.netlink_packet_core_messages.proofs.Past.{cut_refused}
use Rattle.netlink_packet_core_messages.proofs.laws.cut_frames_are_refused.Goals as goal

pub returns : goal.returns
returns g c = cut_refused g.I.NetlinkDeserializable.reads c.args.frame.now c.args.end c.requires.whole c.requires.inside
