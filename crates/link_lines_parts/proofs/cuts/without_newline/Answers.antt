use Rattle.std.proofs.Common.{sym}
use Rattle.link_lines_parts.proofs.FirstParts.{line_kept, newline_dropped}
use Rattle.link_lines_parts.proofs.cuts.without_newline.Goals as goal

pub returns-then-last-eq10 : goal.returns-then-last-eq10
returns-then-last-eq10 c = sym (newline_dropped c.args.line.now c.in-Some.start.now c.in-Some.last.now c.in-Some.ensures.cases.0 c.if-last-eq10.true)

pub returns-else-last-eq10 : goal.returns-else-last-eq10
returns-else-last-eq10 c = sym (line_kept c.args.line.now c.in-Some.start.now c.in-Some.last.now c.in-Some.ensures.cases.0 c.if-last-eq10.false)
