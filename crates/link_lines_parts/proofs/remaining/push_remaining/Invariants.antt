use Rattle.std.proofs.Common.{length}
use Rattle.link_lines_values.specs.Appends.{AppendsAllBut}
use Rattle.link_lines_parts.specs.Lines.{lines_of}
use Rattle.link_lines_parts.specs.Remaining.{omitted_of, remaining_after, remaining_lines}
use Rattle.link_lines_parts.proofs.remaining.push_remaining.Given as goal

abbrev pub invariant-loop-line : goal.invariant-loop-line
invariant-loop-line l = AppendsAllBut l.fn.out l.out (remaining_lines (omitted_of l.fn.without) l.fn.lines) (remaining_after (omitted_of l.without) l.before (lines_of l.rest))

abbrev pub decreases-loop-line : goal.decreases-loop-line
decreases-loop-line l = length l.rest
