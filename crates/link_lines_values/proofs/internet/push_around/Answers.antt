use Rattle.std.proofs.Common.{refl}
use Rattle.link_lines_values.proofs.Appending.{added, last, start, step}
use Rattle.link_lines_values.proofs.internet.push_around.Goals as goal

pub returns : goal.returns
returns c =
    let first = step _ (start c.args.out.now _) c.in_ok-push_segments.ensures refl in
    let second = added c.extend_from_slice.new.self _ _ first c.in_ok-extend_from_slice.ensures.items c.in_ok-extend_from_slice.ensures.capacity refl in
    last c.push_segments-2.result second c.push_segments-2.ensures
