use Rattle.std.proofs.Common.{false, length}
use Rattle.link_lines_values.specs.Appends.{AppendsAllBut}
use Rattle.link_lines_parts.specs.Lines.{words_of}
use Rattle.link_lines_parts.specs.Remaining.{omitted_of, without_fields}
use Rattle.link_lines_parts.proofs.remaining.push_without_fields.Given as goal

abbrev pub invariant-loop-word : goal.invariant-loop-word
invariant-loop-word l = AppendsAllBut l.fn.out l.out (without_fields (omitted_of l.fn.without) false (words_of l.fn.line)) (without_fields (omitted_of l.without) l.after_name (words_of l.rest))

abbrev pub decreases-loop-word : goal.decreases-loop-word
decreases-loop-word l = length l.rest
