use Rattle.std.proofs.Common.{◌-◌, length, arith}
use Rattle.netlink_packet_core_grammar.proofs.Texts.{without_nul-at, without_nul-same, without_nul-short}
use Rattle.netlink_packet_core_numbers.proofs.parsers.without_nul.Goals as goal
use Rattle.netlink_packet_core_numbers.proofs.parsers.without_nul.Goals.{else-len-gt0-via-then-len-gt0+else-bytes-len-eq0, else-len-gt0-via-else-len-gt0}

pub returns-then-bytes-len-eq0 : goal.returns-then-bytes-len-eq0
returns-then-bytes-len-eq0 c = without_nul-at c.args.bytes.now (length c.args.bytes.now - 1) (omega arith) c.if-bytes-len-eq0.true

pub returns-else-len-gt0 : goal.returns-else-len-gt0
returns-else-len-gt0 c =
    elim c.else-len-gt0.branch [
      | else-len-gt0-via-then-len-gt0+else-bytes-len-eq0 w ↦ without_nul-same c.args.bytes.now (length c.args.bytes.now - 1) (omega arith) w.if-bytes-len-eq0.false
      | else-len-gt0-via-else-len-gt0 w ↦ without_nul-short c.args.bytes.now (omega arith)
    ]
