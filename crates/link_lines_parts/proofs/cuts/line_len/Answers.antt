use Rattle.std.proofs.Common.{sym}
use Rattle.link_lines_parts.proofs.FirstParts.{newline_first, newline_nowhere}
use Rattle.link_lines_parts.proofs.cuts.line_len.Goals as goal

pub returns-in-Some : goal.returns-in-Some
returns-in-Some c = sym (newline_first c.args.text.now c.in-Some.at c.in-Some.ensures)

pub returns-in-None : goal.returns-in-None
returns-in-None c = sym (newline_nowhere c.args.text.now c.in-None.ensures)
