use Rattle.link_lines_values.specs.Appends.{AppendsAllBut}
use Rattle.link_lines_json.specs.Json.{closing}
use Rattle.link_lines_json.proofs.json.push_closing.Given as goal

abbrev pub invariant-lists : goal.invariant-lists
invariant-lists l = AppendsAllBut l.fn.out l.out (closing l.count) (closing l.left)

abbrev pub decreases-lists : goal.decreases-lists
decreases-lists l = l.left
