use Rattle.std.proofs.Common.{refl, rules, true}
use Rattle.std.proofs.Output.{has_written_styled_append, has_written_styled_of_eq}
use Rattle.link_lines.proofs.refused.ShowFaultDisplay.fmt.Goals as goal

pub returns-in_ok-write_str-in-Some-clause-styled : goal.returns-in_ok-write_str-in-Some-clause-styled
returns-in_ok-write_str-in-Some-clause-styled g c = λ flush ok.
    let first = c.in_ok-write_str.ensures.styled flush (refl {a = true}) in
    let second = c.in_ok-write_str-in-Some.ensures.styled first.flush (refl {a = true}) in
    let third = c.fmt.ensures.styled second.flush ok in
    has_written_styled_of_eq _ _ _ _ _ (search rules) (has_written_styled_append _ _ _ _ _ _ first (has_written_styled_append _ _ _ _ _ _ second third))
