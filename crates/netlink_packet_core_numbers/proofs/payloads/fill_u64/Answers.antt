use Rattle.std.proofs.Common.{◌∙◌}
use Rattle.netlink_packet_core_grammar.proofs.Numbers.{le8-bytes}
use Rattle.netlink_packet_core_numbers.proofs.payloads.fill_u64.Goals as goal

pub returns : goal.returns
returns c = c.copy_from_slice.ensures.after ∙ c.to_le_bytes.ensures ∙ le8-bytes c.args.value c.ranges.value.fits
