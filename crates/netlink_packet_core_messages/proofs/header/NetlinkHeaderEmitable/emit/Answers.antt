use Rattle.std.proofs.Common.{rules}
use Rattle.netlink_packet_core_grammar.proofs.Sizes.{sizes}
use Rattle.netlink_packet_core_messages.specs.Headers.{header_text}
use Rattle.netlink_packet_core_messages.proofs.Headers.{header_sizes}
use Rattle.netlink_packet_core_messages.proofs.header.NetlinkHeaderEmitable.emit.Goals as goal

pub returns : goal.returns
unfolding header_text
returns c = search (rules, header_sizes, sizes)
