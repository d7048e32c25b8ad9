use Rattle.std.proofs.Common.{◌∙◌}
use Rattle.netlink_packet_core_grammar.proofs.Numbers.{be8-bytes}
use Rattle.netlink_packet_core_numbers.proofs.payloads.fill_u64_be.Goals as goal

pub returns : goal.returns
returns c = c.copy_from_slice.ensures.after ∙ c.to_be_bytes.ensures ∙ be8-bytes c.args.value c.ranges.value.fits
