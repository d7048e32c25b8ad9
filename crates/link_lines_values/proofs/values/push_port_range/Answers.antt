use Rattle.std.proofs.Common.{◌∙◌, refl, arith}
use Rattle.link_lines_values.proofs.Appending.{added, as_text, last, start, step}
use Rattle.link_lines_values.proofs.Readings.{port_bytes}
use Rattle.link_lines_values.proofs.values.push_port_range.Goals as goal

pub returns-in_ok-push-in-len4-2 : goal.returns-in_ok-push-in-len4-2
returns-in_ok-push-in-len4-2 c =
    let text = port_bytes c.args.payload.now c.from.result c.from-in-len4.result (omega arith) (c.from.ensures ∙ c.from_be_bytes.ensures) (c.from-in-len4.ensures ∙ c.from_be_bytes-in-len4.ensures) in
    let e = c.in_ok-push-in-len4.ensures in
    let first = added c.push.new.self _ _ (start c.args.out.now _) e.items e.capacity refl in
    let second = step _ first c.in_ok-push_decimal-in-len4.ensures refl in
    let f = (c.in_ok-push-in-len4-2).ensures in
    let third = added c.push-in-len4.new.self _ _ second f.items f.capacity refl in
    as_text text (last c.push_decimal-in-len4.result third c.push_decimal-in-len4.ensures)
