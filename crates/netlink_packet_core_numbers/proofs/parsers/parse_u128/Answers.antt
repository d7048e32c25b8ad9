use Rattle.std.proofs.Common.{rules}
use Rattle.netlink_packet_core_grammar.specs.Numbers.{le16}
use Rattle.netlink_packet_core_numbers.proofs.Sixteen.{le_bytes_16}
use Rattle.netlink_packet_core_numbers.proofs.parsers.parse_u128.Goals as goal

pub returns : goal.returns
unfolding le16
returns c = record {
  size = search rules;
  ok = le_bytes_16 c.args.payload.now c.from_le_bytes.result (search rules) (search rules) (search rules);
  err = search rules;
}
