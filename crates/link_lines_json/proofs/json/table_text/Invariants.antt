use Rattle.std.proofs.Common.{◌≡◌, length}
use Rattle.link_lines_json.specs.Json.{table_terms}
use Rattle.link_lines_parts.specs.Lines.{lines_of}
use Rattle.link_lines_json.proofs.json.table_text.Given as goal

abbrev pub invariant-loop-line : goal.invariant-loop-line
invariant-loop-line l = table_terms (lines_of l.left) ≡ table_terms (lines_of l.lines)

abbrev pub decreases-loop-line : goal.decreases-loop-line
decreases-loop-line l = length l.left
