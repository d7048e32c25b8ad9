use Rattle.std.proofs.Common.{sym, ap, ◌∙◌}
use Rattle.link_lines_texts.specs.Format.{inside_held}
use Rattle.link_lines_texts.proofs.format.info_format.Goals as goal

pub returns-in-Some : goal.returns-in-Some
returns-in-Some c = c.of_held.ensures ∙ ap inside_held (sym c.in-Some.is ∙ c.info_held.ensures.is)

pub returns-in-None : goal.returns-in-None
returns-in-None c = ap inside_held (sym c.in-None.is ∙ c.info_held.ensures.is)
