use Rattle.std.proofs.Common.{false, ◌∙◌}
use Rattle.linkcap_program.proofs.Reporting.{unprinted, unprinted_reported}
use Rattle.linkcap_program.proofs.comparing.report.Goals as goal

pub returns-else-report_text : goal.returns-else-report_text
returns-else-report_text g c = (
  false,
  unprinted _ _ _ c.args.outcome c.in-Ok.is_same c.if-report_text.ensures c.line_of.ensures c.in-Ok.is,
  unprinted_reported _ _ _ _ _ c.args.outcome c.in-Ok.is_same c.report_text-in-Ok.ensures (c.as_str-in-Ok.ensures.value ∙ c.line.ensures) (c.as_str.ensures.value ∙ c.text.ensures.text) c.in-Ok.is,
  c.from-in-Ok.ensures,
)
