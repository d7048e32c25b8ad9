use Rattle.std.proofs.Common.{sym}
use Rattle.netlink_packet_core_messages.proofs.Written.{padded}
use Rattle.netlink_packet_core_messages.proofs.laws.padding_ends_a_frame.Goals as goal

pub returns : goal.returns
returns c = sym (padded c.args.frame.now c.args.body.now)
