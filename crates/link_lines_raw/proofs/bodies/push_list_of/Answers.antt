use Rattle.std.proofs.Common.{ap, ◌∙◌}
use Rattle.link_lines_values.proofs.Appending.{done, start}
use Rattle.link_lines_raw.specs.Bodies.{list_lines_of}
use Rattle.link_lines_raw.specs.Lines.{lines_text}
use Rattle.link_lines_raw.proofs.Spans.{no_text}
use Rattle.link_lines_raw.proofs.bodies.push_list_of.Goals as goal

pub returns-in-None : goal.returns-in-None
returns-in-None c =
    done _ (start c.args.out.now _) (ap (λ o. lines_text (list_lines_of o c.args.list.now)) c.in-None.is ∙ no_text)
