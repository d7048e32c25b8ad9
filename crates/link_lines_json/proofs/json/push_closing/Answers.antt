use Rattle.std.proofs.Common.{sym}
use Rattle.link_lines_values.proofs.Appending.{added}
use Rattle.link_lines_json.proofs.Steps.{closing_step}
use Rattle.link_lines_json.proofs.json.push_closing.Goals as goal

pub lists-preserved : goal.lists-preserved
lists-preserved c =
    let e = c.in_ok-extend_from_slice.ensures in
    added c.extend_from_slice.new.self _ _ c.lists.invariant e.items e.capacity (sym (closing_step c.lists.left c.lists-test.true))
