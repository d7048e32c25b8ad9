use Rattle.linkshow_program.proofs.Reporting.{come_none, path_more, path_failed}
use Rattle.linkshow_program.proofs.refusals.report_path.Goals as goal

pub names-init : goal.names-init
names-init g c = record { come = come_none _ _ }

pub names-preserved : goal.names-preserved
names-preserved g c = record { come = path_more _ _ _ _ _ _ c.separator_after_name.result _ c.in-len1-up.len_at_least c.separator_after_name.ensures c.names.invariant.come c.if-not-report_texts.false c.report_texts.ensures }

pub returns-then-not-report_texts : goal.returns-then-not-report_texts
returns-then-not-report_texts g c = path_failed _ _ _ _ _ _ c.separator_after_name.result _ c.in-len1-up.len_at_least c.separator_after_name.ensures c.names.invariant.come c.if-not-report_texts.true c.report_texts.ensures
