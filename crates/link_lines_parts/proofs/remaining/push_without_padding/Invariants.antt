use Rattle.std.proofs.Common.{length}
use Rattle.link_lines_values.specs.Appends.{AppendsAllBut}
use Rattle.link_lines_parts.specs.Lines.{words_of}
use Rattle.link_lines_parts.specs.Remaining.{without_padding}
use Rattle.link_lines_parts.proofs.remaining.push_without_padding.Given as goal

abbrev pub invariant-loop-word : goal.invariant-loop-word
invariant-loop-word l = AppendsAllBut l.fn.out l.out (without_padding (words_of l.fn.line)) (without_padding (words_of l.rest))

abbrev pub decreases-loop-word : goal.decreases-loop-word
decreases-loop-word l = length l.rest
