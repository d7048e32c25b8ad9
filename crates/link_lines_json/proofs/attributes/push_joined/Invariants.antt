use Rattle.std.proofs.Common.{false, length}
use Rattle.link_lines_values.specs.Appends.{AppendsAllBut}
use Rattle.link_lines_json.specs.Attributes.{joined}
use Rattle.link_lines_json.specs.Tokens.{terms}
use Rattle.link_lines_json.proofs.attributes.push_joined.Given as goal

abbrev pub invariant-loop-term : goal.invariant-loop-term
invariant-loop-term l = AppendsAllBut l.fn.out l.out (joined false (terms l.fn.text)) (joined l.is_after (terms l.left))

abbrev pub decreases-loop-term : goal.decreases-loop-term
decreases-loop-term l = length l.left
