use Rattle.std.proofs.Common.{refl, rules, true}
use Rattle.std.proofs.Output.{has_written_styled_append, has_written_styled_of_eq}
use Rattle.link_capture_refusals.proofs.refusal.RefusalDisplay.fmt.Goals as goal

pub returns-clause-styled : goal.returns-clause-styled
returns-clause-styled g c = λ flush ok.
    let first = c.in_ok-write_path.ensures.styled flush (refl {a = true}) in
    let second = c.write_str.ensures.styled first.flush ok in
    has_written_styled_of_eq _ _ _ _ _ (search rules) (has_written_styled_append _ _ _ _ _ _ first second)
