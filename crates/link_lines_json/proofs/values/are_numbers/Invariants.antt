use Rattle.std.proofs.Common.{◌≡◌, length}
use Rattle.link_lines_json.specs.Values.{are_numbers}
use Rattle.link_lines_json.specs.Tokens.{terms}
use Rattle.link_lines_json.proofs.values.are_numbers.Given as goal

abbrev pub invariant-loop-term : goal.invariant-loop-term
invariant-loop-term l = are_numbers (terms l.left) ≡ are_numbers (terms l.text)

abbrev pub decreases-loop-term : goal.decreases-loop-term
decreases-loop-term l = length l.left
