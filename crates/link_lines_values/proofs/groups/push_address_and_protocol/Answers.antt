use Rattle.std.proofs.Common.{refl}
use Rattle.link_lines_values.proofs.Appending.{added, last, start, step}
use Rattle.link_lines_values.proofs.groups.push_address_and_protocol.Goals as goal

pub returns : goal.returns
returns c =
    let first = step _ (start c.args.out.now _) c.in_ok-push_group_address.ensures refl in
    let second = added c.extend_from_slice.new.self _ _ first c.in_ok-extend_from_slice.ensures.items c.in_ok-extend_from_slice.ensures.capacity refl in
    last c.push_number.result second c.push_number.ensures
