use Rattle.std.proofs.Common.{refl}
use Rattle.link_lines_values.proofs.Appending.{added, last, start, step}
use Rattle.link_lines_json.specs.Attributes.{nested_payload}
use Rattle.link_lines_json.proofs.attributes.push_nested_payload.Goals as goal

pub returns : goal.returns
unfolding nested_payload
returns c =
    let e = c.in_ok-extend_from_slice.ensures in
    let named = step _ (start c.args.out.now _) c.in_ok-push_next_key.ensures refl in
    last c.push_payload.result (added c.extend_from_slice.new.self _ _ named e.items e.capacity refl) c.push_payload.ensures
