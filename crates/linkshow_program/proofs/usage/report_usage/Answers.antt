use Rattle.std.proofs.Common.{sym, subst}
use Rattle.link_capture_reader.specs.States.{IsReported, sink_state}
use Rattle.linkshow_program.specs.Arguments.{usage_fault}
use Rattle.linkshow_program.specs.Texts.{usage_text}
use Rattle.linkshow_program.proofs.usage.report_usage.Goals as goal

pub returns-in-InvalidLimit : goal.returns-in-InvalidLimit
returns-in-InvalidLimit g c =
    subst (λ e. IsReported (sink_state g.E.Sink.holds g.E.Sink.failures c.args.errors.now) (sink_state g.E.Sink.holds g.E.Sink.failures c.report_texts.new.sink) (usage_text (usage_fault e)) c.report_texts.result) (sym c.in-InvalidLimit.is) c.report_texts.ensures

pub returns-in-UnknownType : goal.returns-in-UnknownType
returns-in-UnknownType g c =
    subst (λ e. IsReported (sink_state g.E.Sink.holds g.E.Sink.failures c.args.errors.now) (sink_state g.E.Sink.holds g.E.Sink.failures c.report_texts-in-UnknownType.new.sink) (usage_text (usage_fault e)) c.report_texts-in-UnknownType.result) (sym c.in-UnknownType.is) c.report_texts-in-UnknownType.ensures

pub returns-in-UnknownName : goal.returns-in-UnknownName
returns-in-UnknownName g c =
    subst (λ e. IsReported (sink_state g.E.Sink.holds g.E.Sink.failures c.args.errors.now) (sink_state g.E.Sink.holds g.E.Sink.failures c.report_texts-in-UnknownName.new.sink) (usage_text (usage_fault e)) c.report_texts-in-UnknownName.result) (sym c.in-UnknownName.is) c.report_texts-in-UnknownName.ensures
