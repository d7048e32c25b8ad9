use Rattle.std.proofs.Common.{◌≡◌, drop}
use Rattle.link_lines_values.specs.Bytes.{is_zero}
use Rattle.link_lines_values.proofs.bytes.is_zero.Given as goal

abbrev pub invariant-loop-byte : goal.invariant-loop-byte
invariant-loop-byte l = is_zero (drop l.byte-index l.bytes) ≡ is_zero l.bytes
