use Rattle.std.proofs.Common.{length}
use Rattle.link_lines_values.specs.Appends.{AppendsAllBut}
use Rattle.link_lines_json.specs.Values.{fields_json}
use Rattle.link_lines_json.specs.Tokens.{terms}
use Rattle.link_lines_json.proofs.values.push_fields.Given as goal

abbrev pub invariant-loop-name : goal.invariant-loop-name
invariant-loop-name l = AppendsAllBut l.fn.out l.out (fields_json l.after (terms l.fn.text)) (fields_json l.is_after (terms l.left))

abbrev pub decreases-loop-name : goal.decreases-loop-name
decreases-loop-name l = length l.left
