-- The report on the first bytes that were read.
use Rattle.std.proofs.Common.{List, ℕ, subst}
use Rattle.std.specs.Prelude.{option_map}
use Rattle.link_capture_reader.specs.States.{IsReportedUnlessSinkFails, sink_state}
use Rattle.linkshow_program.specs.Runs.{report_of}
use Rattle.linkshow_program.proofs.showing.run_show.Goals as goal

pub returns : goal.returns
returns g c =
    let file = option_map (λ name. name.now) c.args.options.now.file in
    let Reported : List ℕ → Type 0 = λ x. IsReportedUnlessSinkFails (sink_state g.E.Sink.holds g.E.Sink.failures c.args.errors.now) (sink_state g.E.Sink.holds g.E.Sink.failures c.report.new.errors) (report_of file x c.show_keeping_first-outcome.result) in (
      c.show_keeping_first-outcome.result,
      c.show_keeping_first-outcome.new.first.items,
      c.show_keeping_first-outcome.ensures,
      subst Reported c.as_slice.ensures.value c.report.ensures.reported,
      c.report.ensures.status,
    )
