use Rattle.std.proofs.Common.{length, map}
use Rattle.link_capture_refusals.specs.RefusalTexts.{path_text}
use Rattle.link_capture_reader.specs.States.{sink_state}
use Rattle.linkshow_program.proofs.Reporting.{Come}
use Rattle.linkshow_program.proofs.refusals.report_path.Given as goal

abbrev pub invariant-names : goal.invariant-names
invariant-names g l = record {
  come : Come (sink_state g.E.Sink.holds g.E.Sink.failures l.fn.errors) (sink_state g.E.Sink.holds g.E.Sink.failures l.errors) (path_text (map (λ n. n.now) l.left)) (path_text (map (λ n. n.now) l.fn.path));
}

abbrev pub decreases-names : goal.decreases-names
decreases-names g l = length l.left
