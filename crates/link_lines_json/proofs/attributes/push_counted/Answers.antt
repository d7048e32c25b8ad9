use Rattle.std.proofs.Common.{refl, ap, sym}
use Rattle.link_lines_values.proofs.Appending.{added, as_text, last, start, step}
use Rattle.link_lines_json.specs.Attributes.{counted_json}
use Rattle.link_lines_json.proofs.attributes.push_counted.Goals as goal

pub returns : goal.returns
unfolding counted_json
returns c =
    let named = step _ (start c.args.out.now _) c.in_ok-push_key.ensures refl in
    let e = c.in_ok-extend_from_slice.ensures in
    let counted = added c.extend_from_slice.new.self _ _ (step _ named c.in_ok-push_word.ensures refl) e.items e.capacity refl in
    as_text (ap counted_json (sym c.in-Some.ensures.some)) (last c.push_record.result counted c.push_record.ensures)
