use Rattle.linkshow_program.proofs.Reporting.{more_reported}
use Rattle.linkshow_program.proofs.lines.report_texts.Goals as goal

pub texts-preserved : goal.texts-preserved
texts-preserved g c = record { reported = more_reported _ _ _ c.texts.left.now c.args.texts.now _ _ c.in-len1-up.len_at_least c.texts.invariant.reported c.if-not-report_text.false c.report_text.ensures }
