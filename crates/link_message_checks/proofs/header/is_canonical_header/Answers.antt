use Rattle.std.proofs.Common.{sym, ◌∙◌}
use Rattle.link_message_checks.proofs.Headers.{canonical_header}
use Rattle.link_message_checks.proofs.header.is_canonical_header.Goals as goal

pub returns-then-bytes-eq0 : goal.returns-then-bytes-eq0
returns-then-bytes-eq0 c = λ t. canonical_header c.args.bytes.now c.requires c.if-bytes-eq0.true (sym c.has_name.ensures ∙ t)
