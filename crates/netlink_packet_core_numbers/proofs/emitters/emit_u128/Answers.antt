use Rattle.std.proofs.Common.{ap, sym, ◌∙◌, arith, length}
use Rattle.std.proofs.lemmas.List.{length-take-le}
use Rattle.netlink_packet_core_numbers.proofs.emitters.emit_u128.Goals as goal

pub copy_from_slice-requires : goal.copy_from_slice-requires
copy_from_slice-requires c = length-take-le 16 c.args.buffer.now (omega (arith, c.if-buffer-lt16.false)) ∙ sym (ap length c.to_le_bytes.ensures)
