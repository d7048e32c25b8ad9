use Rattle.std.proofs.Common.{false, length}
use Rattle.link_lines_values.specs.Appends.{AppendsAllBut}
use Rattle.link_lines_json.specs.Values.{assignments_json}
use Rattle.link_lines_json.specs.Tokens.{terms}
use Rattle.link_lines_json.proofs.values.push_assignments.Given as goal

abbrev pub invariant-fields : goal.invariant-fields
invariant-fields l = AppendsAllBut l.fn.out l.out (assignments_json false (terms l.fn.text)) (assignments_json l.is_after (terms l.left))

abbrev pub decreases-fields : goal.decreases-fields
decreases-fields l = length l.left
