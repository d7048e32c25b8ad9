use Rattle.std.proofs.Common.{◌∙◌}
use Rattle.link_capture_grammar.specs.Faults.{fault_text}
use Rattle.linkshow_program.proofs.Reporting.{then_reported, no_more_reported}
use Rattle.linkshow_program.proofs.refusals.report_fault_message.Goals as goal

pub returns-then-not-report_text : goal.returns-then-not-report_text
returns-then-not-report_text g c = no_more_reported _ _ _ (fault_text c.args.found.now.fault) _ _ c.if-not-report_text.true (c.as_str.ensures.value ∙ c.text.ensures.text) c.report_text.ensures

pub returns : goal.returns
returns g c = then_reported _ _ _ _ (fault_text c.args.found.now.fault) _ _ _ c.if-not-report_text.false (c.as_str.ensures.value ∙ c.text.ensures.text) c.report_text.ensures c.report_refusal.ensures
