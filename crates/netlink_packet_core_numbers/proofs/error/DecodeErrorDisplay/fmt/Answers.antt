use Rattle.std.proofs.Common.{refl, true}
use Rattle.std.proofs.Output.{has_written_styled_append}
use Rattle.netlink_packet_core_numbers.proofs.error.DecodeErrorDisplay.fmt.Goals as goal

pub returns-clause-styled : goal.returns-clause-styled
returns-clause-styled g c = λ flush ok.
    let fourth = c.in_ok-fmt.ensures.styled flush (refl {a = true}) in
    let third = c.in_ok-fmt-2.ensures.styled fourth.flush (refl {a = true}) in
    let second = c.in_ok-fmt-3.ensures.styled third.flush (refl {a = true}) in
    let first = c.in_ok-fmt-4.ensures.styled second.flush (refl {a = true}) in
    let cause = c.fmt-5.ensures.styled first.flush ok in
    has_written_styled_append _ _ _ _ _ _ fourth (has_written_styled_append _ _ _ _ _ _ third
    (has_written_styled_append _ _ _ _ _ _ second (has_written_styled_append _ _ _ _ _ _ first cause)))
