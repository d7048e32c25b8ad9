use Rattle.std.proofs.Common.{length}
use Rattle.link_capture_reader.specs.States.{sink_state}
use Rattle.linkshow_program.proofs.Reporting.{Reported}
use Rattle.linkshow_program.proofs.lines.report_texts.Given as goal

abbrev pub invariant-texts : goal.invariant-texts
invariant-texts g l = record {
  reported : Reported (sink_state g.K.Sink.holds g.K.Sink.failures l.fn.sink) (sink_state g.K.Sink.holds g.K.Sink.failures l.sink) l.left l.fn.texts;
}

abbrev pub decreases-texts : goal.decreases-texts
decreases-texts g l = length l.left
