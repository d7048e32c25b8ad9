use Rattle.std.proofs.Common.{refl}
use Rattle.link_lines_values.proofs.Appending.{added, as_text, last, start, step}
use Rattle.link_lines_values.proofs.Counters.{counters_of}
use Rattle.link_lines_values.proofs.records.push_counters.Goals as goal

pub returns-in_ok-push_decimal-in-len1-up : goal.returns-in_ok-push_decimal-in-len1-up
returns-in_ok-push_decimal-in-len1-up c =
    let text = counters_of (λ b. b.now) c.args.rows.now _ c.from-size.result c.args.bytes.now c.in-len1-up.len_at_least c.from-size.ensures in
    let e = c.in_ok-extend_from_slice-in-len1-up.ensures in
    let first = added c.extend_from_slice.new.self _ _ (start c.args.out.now _) e.items e.capacity refl in
    let second = step _ first c.in_ok-push_decimal-in-len1-up.ensures refl in
    as_text text (last c.push_slots.result second c.push_slots.ensures)
