use Rattle.std.proofs.Common.{◌∙◌, arith}
use Rattle.link_lines_values.proofs.Zeros.{counted_all, counted_next, counted_same}
use Rattle.link_lines_values.proofs.bytes.count_without_zeros.Goals as goal
use Rattle.link_lines_values.proofs.bytes.count_without_zeros.Goals.{then-byte-ne0, else-byte-ne0}

pub loop-i-init : goal.loop-i-init
loop-i-init c = counted_all c.args.bytes.now

pub loop-i-preserved : goal.loop-i-preserved
loop-i-preserved c =
    elim c.if-byte-ne0.branch [
      | then-byte-ne0 w ↦ counted_next c.loop-i.i c.loop-i.count c.if-byte-ne0.count c.args.bytes.now (omega arith) w.if-byte-ne0.true w.count-is ∙ c.loop-i.invariant
      | else-byte-ne0 w ↦ counted_same c.loop-i.i c.loop-i.count c.if-byte-ne0.count c.args.bytes.now (omega arith) w.if-byte-ne0.false w.count-is ∙ c.loop-i.invariant
    ]
