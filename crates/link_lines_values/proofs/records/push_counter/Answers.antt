use Rattle.std.proofs.Common.{◌≡◌, ◌∷◌, ◌++◌, [], cond, false, refl, rules}
use Rattle.link_lines_values.specs.Bytes.{is_zero}
use Rattle.link_lines_values.specs.Records.{counter_name, field_value, fields_of, shown_of}
use Rattle.link_lines_values.proofs.Appending.{added, as_text, last, start, step}
use Rattle.link_lines_values.proofs.records.push_counter.Goals as goal

pub returns : goal.returns
returns c =
    let part = c.args.part.now in
    let nonzero : is_zero part ≡ false = search rules in
    let shown = 32 ∷ (counter_name (fields_of (λ b. b.now) c.args.rows.now) c.args.index ++ 61 ∷ field_value (shown_of c.args.shown.now) part) in
    let text : shown ≡ cond (is_zero part) [] shown = rw nonzero refl in
    let e = c.in_ok-push.ensures in
    let first = added c.push.new.self _ _ (start c.args.out.now _) e.items e.capacity refl in
    let second = step _ first c.in_ok-push_counter_name.ensures refl in
    let f = (c.in_ok-push-2).ensures in
    let third = added c.push-2.new.self _ _ second f.items f.capacity refl in
    as_text text (last c.push_field_value.result third c.push_field_value.ensures)
