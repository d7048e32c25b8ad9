use Rattle.std.proofs.Common.{refl}
use Rattle.link_lines_values.proofs.Appending.{added, last, start}
use Rattle.link_lines_values.proofs.internet.push_mapped.Goals as goal

pub returns : goal.returns
returns c =
    let first = added c.extend_from_slice.new.self _ _ (start c.args.out.now _) c.in_ok-extend_from_slice.ensures.items c.in_ok-extend_from_slice.ensures.capacity refl in
    last c.push_octets.result first c.push_octets.ensures
