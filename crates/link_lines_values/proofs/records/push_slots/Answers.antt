use Rattle.std.proofs.Common.{arith, rules}
use Rattle.link_lines_values.specs.Records.{fields_of, shown_of}
use Rattle.link_lines_values.proofs.Appending.{done, failed, step}
use Rattle.link_lines_values.proofs.Counters.{slots_step, slots_done}
use Rattle.link_lines_values.proofs.records.push_slots.Goals as goal

pub loop-rest-preserved : goal.loop-rest-preserved
loop-rest-preserved c =
    let more = slots_step c.args.size (shown_of c.args.shown.now) (fields_of (λ b. b.now) c.args.rows.now) c.loop-rest.index c.loop-rest.rest.now c.split_at.result.0.now c.split_at.result.1.now c.requires c.loop-rest-test.true (search rules) (search rules) in
    record {
      appends = step _ c.loop-rest.invariant.appends c.in_ok-push_counter.ensures more;
      index = omega (arith, c.split_at.ensures.back_len, c.loop-rest.invariant.index);
    }

pub returns-in_err-push_counter : goal.returns-in_err-push_counter
returns-in_err-push_counter c =
    let more = slots_step c.args.size (shown_of c.args.shown.now) (fields_of (λ b. b.now) c.args.rows.now) c.loop-rest.index c.loop-rest.rest.now c.split_at.result.0.now c.split_at.result.1.now c.requires c.loop-rest-test.true (search rules) (search rules) in
    failed _ _ _ c.from_residual.ensures.0 c.loop-rest.invariant.appends c.in_err-push_counter.ensures more

pub returns : goal.returns
returns c =
    let none = slots_done c.args.size (shown_of c.args.shown.now) (fields_of (λ b. b.now) c.args.rows.now) c.loop-rest.index c.loop-rest.rest.now (omega (arith, c.loop-rest-test.false)) in
    done _ c.loop-rest.invariant.appends none
