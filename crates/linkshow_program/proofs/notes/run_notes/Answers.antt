use Rattle.std.proofs.Common.{◌≡◌, ℕ, List, Some, Err, take, refl, subst, ◌∙◌, inl, inr}
use Rattle.std.specs.Prelude.{option_map}
use Rattle.std.specs.Process.{exit_status}
use Rattle.link_capture_quirks.specs.CaptureQuirks.{capture_quirks}
use Rattle.link_lines.specs.Outcomes.{Shows}
use Rattle.link_capture_reader.specs.States.{IsReportedUnlessSinkFails, sink_state}
use Rattle.linkshow_program.specs.Runs.{chosen, notes_text, report_of, status_of}
use Rattle.linkshow_program.proofs.notes.run_notes.Goals as goal

pub returns-in-Ok : goal.returns-in-Ok
returns-in-Ok g c =
    let read = c.in-Ok.ensures in
    let whole : c.new-whole.result.rest.now ≡ read.0 = c.new-whole.ensures.rest ∙ c.as_slice-in-Ok.ensures.value ∙ read.2.0 in
    let noted : c.as_slice.result.now ≡ read.0 = c.as_slice.ensures.value ∙ read.2.0 in
    let Lined : List ℕ → Type 0 = λ x. Shows (chosen c.args.options.now) (record { to_come = Some x; failures = 0; ends_reported = c.new-whole.result.ends_reported }) (record { to_come = Some c.show-outcome.new.source.rest.now; failures = 0; ends_reported = c.show-outcome.new.source.ends_reported })
    (sink_state g.K.Sink.holds g.K.Sink.failures c.args.sink.now) (sink_state g.K.Sink.holds g.K.Sink.failures c.show-outcome.new.sink) c.args.options.now.limit c.show-outcome.result in
    let Noted : List ℕ → Type 0 = λ x. IsReportedUnlessSinkFails (sink_state g.E.Sink.holds g.E.Sink.failures c.args.errors.now) (sink_state g.E.Sink.holds g.E.Sink.failures c.report_notes.new.errors) (notes_text (capture_quirks c.args.options.now.limit x)) in
    let Reported : List ℕ → Type 0 = λ x. IsReportedUnlessSinkFails (sink_state g.E.Sink.holds g.E.Sink.failures c.report_notes.new.errors) (sink_state g.E.Sink.holds g.E.Sink.failures c.report.new.errors) (report_of (option_map (λ name. name.now) c.args.options.now.file) x c.show-outcome.result) in (
      read.0,
      read.1,
      inl (
        read.2.2,
        (
          c.show-outcome.result,
          (
            Some c.show-outcome.new.source.rest.now,
            c.new-whole.result.ends_reported,
            c.show-outcome.new.source.ends_reported,
            subst Lined whole c.show-outcome.ensures,
          ),
          (
            sink_state g.E.Sink.holds g.E.Sink.failures c.report_notes.new.errors,
            subst Noted noted c.report_notes.ensures,
            subst Reported (c.as_slice-in-Ok-2.ensures.value ∙ read.3) c.report.ensures.reported,
          ),
          c.report.ensures.status,
        ),
      ),
    )

pub returns-in-Err : goal.returns-in-Err
returns-in-Err g c =
    let read = c.in-Err.ensures in
    let file = option_map (λ name. name.now) c.args.options.now.file in
    let reported = subst (λ x. IsReportedUnlessSinkFails (sink_state g.E.Sink.holds g.E.Sink.failures c.args.errors.now) (sink_state g.E.Sink.holds g.E.Sink.failures c.report-in-Err.new.errors) (report_of file x (Err c.from.result))) (c.as_slice-in-Err.ensures.value ∙ read.3) c.report-in-Err.ensures.reported in
    let alone = subst (λ e. IsReportedUnlessSinkFails (sink_state g.E.Sink.holds g.E.Sink.failures c.args.errors.now) (sink_state g.E.Sink.holds g.E.Sink.failures c.report-in-Err.new.errors) (report_of file (take 4 read.0) (Err e))) c.from.ensures reported in
    (read.0, read.1, inr (c.in-Err.fault, read.2.0, read.2.1, refl, alone, subst (λ e. exit_status c.report-in-Err.result ≡ status_of (Err e)) c.from.ensures c.report-in-Err.ensures.status))
