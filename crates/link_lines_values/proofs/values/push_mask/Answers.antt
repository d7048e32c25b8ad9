use Rattle.std.proofs.Common.{refl}
use Rattle.link_lines_values.proofs.Appending.{added, last, start, step}
use Rattle.link_lines_values.proofs.values.push_mask.Goals as goal

pub returns : goal.returns
returns c =
    let first = added c.push.new.self _ _ (start c.args.out.now _) c.in_ok-push.ensures.items c.in_ok-push.ensures.capacity refl in
    let second = step _ first c.in_ok-push_word_flags.ensures refl in
    let third = added c.extend_from_slice.new.self _ _ second c.in_ok-extend_from_slice.ensures.items c.in_ok-extend_from_slice.ensures.capacity refl in
    last c.push_word_flags-2.result third c.push_word_flags-2.ensures
