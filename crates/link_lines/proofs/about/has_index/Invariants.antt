use Rattle.std.proofs.Common.{◌≡◌, length}
use Rattle.link_lines.specs.About.{has_index}
use Rattle.link_lines_parts.specs.Lines.{words_of}
use Rattle.link_lines.proofs.about.has_index.Given as goal

abbrev pub invariant-loop-word : goal.invariant-loop-word
invariant-loop-word l = has_index l.link l.after_name (words_of l.rest) ≡ has_index l.fn.link l.fn.is_value_first (words_of l.fn.words)

abbrev pub decreases-loop-word : goal.decreases-loop-word
decreases-loop-word l = length l.rest
