use Rattle.std.proofs.Common.{◌≡◌, length}
use Rattle.link_lines_parts.specs.Whole.{is_whole}
use Rattle.link_lines_parts.proofs.whole.is_whole.Given as goal

abbrev pub invariant-loop-rest : goal.invariant-loop-rest
invariant-loop-rest l = is_whole l.rest ≡ is_whole l.fn.bytes

abbrev pub decreases-loop-rest : goal.decreases-loop-rest
decreases-loop-rest l = length l.rest
