use Rattle.link_capture_quirks.specs.CaptureQuirks.{capture_quirks, items_left}
use Rattle.link_capture_reader.specs.States.{sink_state}
use Rattle.linkshow_program.specs.Runs.{notes_text}
use Rattle.linkshow_program.proofs.NotesWritten.{Noted}
use Rattle.linkshow_program.proofs.notes.report_notes.Given as goal

abbrev pub invariant-notes : goal.invariant-notes
invariant-notes g l = record {
  can : (goal.iterator-notes g).can_next l.left;
  finite : (goal.iterator-notes g).is_finite l.left;
  noted : Noted (sink_state g.E.Sink.holds g.E.Sink.failures l.fn.errors) (sink_state g.E.Sink.holds g.E.Sink.failures l.errors) (items_left l.left) (notes_text (capture_quirks l.fn.limit l.fn.bytes));
}
