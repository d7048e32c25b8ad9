use Rattle.std.proofs.Common.{refl}
use Rattle.link_lines_values.proofs.Appending.{added, last, start}
use Rattle.link_lines_values.proofs.records.push_field.Goals as goal

pub returns : goal.returns
returns c =
    let first = added c.push.new.self _ _ (start c.args.out.now _) c.in_ok-push.ensures.items c.in_ok-push.ensures.capacity refl in
    let second = added c.extend_from_slice.new.self _ _ first c.in_ok-extend_from_slice.ensures.items c.in_ok-extend_from_slice.ensures.capacity refl in
    let third = added c.push-2.new.self _ _ second c.in_ok-push-2.ensures.items c.in_ok-push-2.ensures.capacity refl in
    last c.push_field_value.result third c.push_field_value.ensures
