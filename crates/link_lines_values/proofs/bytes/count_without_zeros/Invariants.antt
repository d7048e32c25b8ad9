use Rattle.std.proofs.Common.{◌≡◌, drop}
use Rattle.link_lines_values.specs.Bytes.{count_without_zeros}
use Rattle.link_lines_values.proofs.Zeros.{counted}
use Rattle.link_lines_values.proofs.bytes.count_without_zeros.Given as goal

abbrev pub invariant-loop-i : goal.invariant-loop-i
invariant-loop-i l = counted l.i l.count (drop l.i l.bytes) ≡ count_without_zeros l.bytes
