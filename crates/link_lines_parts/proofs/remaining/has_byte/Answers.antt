use Rattle.std.proofs.Common.{◌∙◌}
use Rattle.link_lines_parts.proofs.BytesInLines.{byte_sought}
use Rattle.link_lines_parts.proofs.remaining.has_byte.Goals as goal

pub returns : goal.returns
returns c = c.is_some.ensures ∙ byte_sought c.args.byte c.args.line.now c.memchr.result c.memchr.ensures
