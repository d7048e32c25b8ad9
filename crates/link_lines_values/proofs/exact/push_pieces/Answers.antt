use Rattle.std.proofs.Common.{[], arith}
use Rattle.link_lines_values.specs.Values.{number_value}
use Rattle.link_lines_values.proofs.Appending.{failed, step}
use Rattle.link_lines_values.proofs.ExactReadings.{next_of_pieces}
use Rattle.link_lines_values.proofs.exact.push_pieces.Goals as goal

pub loop-preserved : goal.loop-preserved
loop-preserved c =
    let next = next_of_pieces (number_value []) c.args.size c.args.count c.loop.counter c.min.result c.loop.rest.now _ _ (omega arith) c.min.ensures c.split_at.ensures.front c.split_at.ensures.back in
    record { within = omega arith; appends = step _ c.loop.invariant.appends c.in_ok-push_plain_number.ensures next }

pub returns-in_err-push_plain_number : goal.returns-in_err-push_plain_number
returns-in_err-push_plain_number c =
    let next = next_of_pieces (number_value []) c.args.size c.args.count c.loop.counter c.min.result c.loop.rest.now _ _ (omega arith) c.min.ensures c.split_at.ensures.front c.split_at.ensures.back in
    failed _ _ _ c.from_residual.ensures.0 c.loop.invariant.appends c.in_err-push_plain_number.ensures next
