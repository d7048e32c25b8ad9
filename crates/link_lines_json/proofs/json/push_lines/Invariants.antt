use Rattle.std.proofs.Common.{length}
use Rattle.link_lines_values.specs.Appends.{AppendsAllBut}
use Rattle.link_lines_json.specs.Json.{lines_json}
use Rattle.link_lines_parts.specs.Lines.{lines_of}
use Rattle.link_lines_json.proofs.json.push_lines.Given as goal

abbrev pub invariant-loop-line : goal.invariant-loop-line
invariant-loop-line l = AppendsAllBut l.fn.out l.out (lines_json 0 (lines_of l.fn.lines)) (lines_json l.lists (lines_of l.left))

abbrev pub decreases-loop-line : goal.decreases-loop-line
decreases-loop-line l = length l.left
