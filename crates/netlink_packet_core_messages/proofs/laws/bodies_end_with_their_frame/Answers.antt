use Rattle.netlink_packet_core_messages.proofs.Past.{cut_frame, past_body}
use Rattle.netlink_packet_core_messages.proofs.laws.bodies_end_with_their_frame.Goals as goal

pub returns : goal.returns
returns c = record { whole = cut_frame c.args.frame.now c.args.rest.now c.requires; body = past_body c.args.frame.now c.args.rest.now c.requires }
