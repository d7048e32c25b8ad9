use Rattle.std.proofs.Common.{◌≡◌, length}
use Rattle.std.specs.List.{list_any}
use Rattle.link_lines.specs.About.{is_about_line}
use Rattle.link_lines_parts.specs.Lines.{lines_of}
use Rattle.link_lines.proofs.about.is_about.Given as goal

abbrev pub invariant-loop-line : goal.invariant-loop-line
invariant-loop-line l = list_any (is_about_line l.link) (lines_of l.rest) ≡ list_any (is_about_line l.fn.link) (lines_of l.fn.lines)

abbrev pub decreases-loop-line : goal.decreases-loop-line
decreases-loop-line l = length l.rest
