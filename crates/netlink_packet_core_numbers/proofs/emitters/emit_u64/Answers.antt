use Rattle.std.proofs.Common.{◌++◌, drop, ap, ◌∙◌, rules}
use Rattle.netlink_packet_core_grammar.proofs.Numbers.{le8-bytes}
use Rattle.netlink_packet_core_numbers.proofs.emitters.emit_u64.Goals as goal

pub returns : goal.returns
returns c = record { size = search rules; ok = ap (λ t. t ++ drop 8 c.args.buffer.now) (c.copy_from_slice.ensures.after ∙ c.to_le_bytes.ensures ∙ le8-bytes c.args.value c.ranges.value.fits); err = search rules; cause = search rules }
