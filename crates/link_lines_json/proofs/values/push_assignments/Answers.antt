use Rattle.std.proofs.Common.{true, drop, refl}
use Rattle.link_lines_values.proofs.Appending.{failed, step}
use Rattle.link_lines_json.specs.Tokens.{terms}
use Rattle.link_lines_json.specs.Values.{assignments_json}
use Rattle.link_lines_json.proofs.Steps.{assignments_step}
use Rattle.link_lines_json.proofs.values.push_assignments.Goals as goal

pub fields-preserved : goal.fields-preserved
fields-preserved c =
    let e = c.in_ok-left.ensures in
    step _ c.fields.invariant e.appends (assignments_step c.fields.is_after (terms c.fields.left.now) (terms c.in_ok-left.left.now) e.rest)

pub returns-in_err-left : goal.returns-in_err-left
returns-in_err-left c =
    let fields = terms c.fields.left.now in
    failed c.from_residual.result _ (assignments_json true (drop 1 fields)) c.from_residual.ensures.0 c.fields.invariant c.in_err-left.ensures.appends (assignments_step c.fields.is_after fields _ refl)
