use Rattle.netlink_packet_core_messages.proofs.Headers.{header_at}
use Rattle.netlink_packet_core_messages.proofs.laws.headers_read_back.Goals as goal

pub returns : goal.returns
returns c = header_at c.args.header.now c.args.rest.now
