use Rattle.std.proofs.Common.{◌/◌, length, arith}
use Rattle.link_lines_values.specs.Exact.{label_after}
use Rattle.link_lines_values.proofs.Appending.{failed, step}
use Rattle.link_lines_values.proofs.ExactReadings.{next_of_pieces}
use Rattle.link_lines_values.proofs.exact.push_more_labels.Goals as goal

pub loop-preserved : goal.loop-preserved
loop-preserved c =
    let next = next_of_pieces label_after 4 (length c.args.bytes.now / 4) c.loop.counter c.min.result c.loop.rest.now _ _ (omega arith) c.min.ensures c.split_at.ensures.front c.split_at.ensures.back in
    record { within = omega arith; appends = step _ c.loop.invariant.appends c.in_ok-push_label_after.ensures next }

pub returns-in_err-push_label_after : goal.returns-in_err-push_label_after
returns-in_err-push_label_after c =
    let next = next_of_pieces label_after 4 (length c.args.bytes.now / 4) c.loop.counter c.min.result c.loop.rest.now _ _ (omega arith) c.min.ensures c.split_at.ensures.front c.split_at.ensures.back in
    failed _ _ _ c.from_residual.ensures.0 c.loop.invariant.appends c.in_err-push_label_after.ensures next
