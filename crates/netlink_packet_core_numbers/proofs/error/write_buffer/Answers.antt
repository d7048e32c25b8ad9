use Rattle.std.proofs.Common.{refl, rules, true}
use Rattle.std.proofs.Output.{has_written_styled_append, has_written_styled_of_eq}
use Rattle.netlink_packet_core_numbers.proofs.error.write_buffer.Goals as goal

pub returns-clause-styled : goal.returns-clause-styled
returns-clause-styled g c = λ flush ok.
    let first = c.in_ok-write_str.ensures.styled flush (refl {a = true}) in
    let second = c.in_ok-write_str-2.ensures.styled first.flush (refl {a = true}) in
    let third = c.in_ok-write_count.ensures.styled second.flush (refl {a = true}) in
    let fourth = c.in_ok-write_count-2.ensures.styled third.flush (refl {a = true}) in
    let fifth = c.write_str-3.ensures.styled fourth.flush ok in
    has_written_styled_of_eq _ _ _ _ _ (search rules)
    (has_written_styled_append _ _ _ _ _ _ first (has_written_styled_append _ _ _ _ _ _ second
    (has_written_styled_append _ _ _ _ _ _ third (has_written_styled_append _ _ _ _ _ _ fourth fifth))))
