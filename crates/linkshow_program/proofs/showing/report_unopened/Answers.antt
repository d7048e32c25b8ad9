use Rattle.std.proofs.Common.{◌++◌, ◌∷◌, [], true, Some, refl, ap}
use Rattle.linkshow_program.specs.Runs.{name_report}
use Rattle.linkshow_program.proofs.Reporting.{retold, then_reported, no_more_reported}
use Rattle.linkshow_program.proofs.showing.report_unopened.Goals as goal

pub returns-then-not-report_name : goal.returns-then-not-report_name
returns-then-not-report_name g c = no_more_reported _ _ _ (name_report (Some c.args.name.now) true) _ _ c.if-not-report_name.true refl c.report_name.ensures

pub returns : goal.returns
returns g c =
    then_reported _ _ _ _ (name_report (Some c.args.name.now) true) _ _ _ c.if-not-report_name.false refl c.report_name.ensures
    (retold _ _ _ _ _ (ap (λ z. z ++ 10 ∷ []) c.cause.ensures) c.report_texts.ensures)
