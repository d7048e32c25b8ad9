use Rattle.std.proofs.Common.{◌++◌, ◌∷◌, [], false, ap, ◌∙◌}
use Rattle.linkshow_program.proofs.Reporting.{retold, reported_by}
use Rattle.linkshow_program.proofs.printing.print.Goals as goal

pub returns : goal.returns
returns g c = (
  false,
  reported_by _ _ _ _ _ c.if-report_text.false c.report_text.ensures,
  (c.report_texts.result, retold _ _ _ _ _ (ap (λ t. t ++ 10 ∷ []) (c.as_str.ensures.value ∙ c.text.ensures.text)) c.report_texts.ensures),
  c.from-2.ensures,
)
