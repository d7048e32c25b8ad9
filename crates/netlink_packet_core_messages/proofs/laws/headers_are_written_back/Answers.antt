use Rattle.netlink_packet_core_messages.proofs.HeaderBytes.{header_written}
use Rattle.netlink_packet_core_messages.proofs.laws.headers_are_written_back.Goals as goal

pub returns : goal.returns
returns c = header_written c.args.bytes.now c.requires (λ i. (c.type_inv.bytes i).fits)
