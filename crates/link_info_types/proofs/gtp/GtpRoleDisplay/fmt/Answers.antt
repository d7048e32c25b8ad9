use Rattle.std.proofs.Common.{refl, rules, true}
use Rattle.std.proofs.Output.{has_written_styled_append, has_written_styled_of_eq}
use Rattle.link_info_types.proofs.gtp.GtpRoleDisplay.fmt.Goals as goal

pub returns-in_ok-write_str-in-Other-2-clause-styled : goal.returns-in_ok-write_str-in-Other-2-clause-styled
returns-in_ok-write_str-in-Other-2-clause-styled g c = λ flush ok.
    let first = c.in_ok-write_str-in-Other.ensures.styled flush (refl {a = true}) in
    let second = c.in_ok-write_str-in-Other-2.ensures.styled first.flush (refl {a = true}) in
    let third = c.write_str-in-Other-3.ensures.styled second.flush ok in
    has_written_styled_of_eq _ _ _ _ _ (search rules) (has_written_styled_append _ _ _ _ _ _ first (has_written_styled_append _ _ _ _ _ _ second third))
