-- what was read was accepted, and its texts are written
use Rattle.std.proofs.Common.{◌≡◌, ◌-◌, ◌^◌, ℕ, List, []}
use Rattle.link_capture_reader.proofs.Progress.{Came}
use Rattle.link_capture_reader.proofs.engine.normalize.Given as goal

abbrev pub invariant-pieces : goal.invariant-pieces
invariant-pieces g l = record {
  empty : l.out.items ≡ [];
  source_failures : g.S.Source.failures l.source ≡ g.S.Source.failures l.fn.source;
  ends : g.S.Source.ends_reported l.source ≡ g.S.Source.ends_reported l.fn.source;
  sink_failures : g.K.Sink.failures l.sink ≡ g.K.Sink.failures l.fn.sink;
  came : (s : List ℕ) × Came l.limit l.reader l.written (g.S.Source.to_come l.fn.source) (g.S.Source.to_come l.source) (g.K.Sink.holds l.fn.sink) (g.K.Sink.holds l.sink) s;
}

abbrev pub decreases-pieces : goal.decreases-pieces
decreases-pieces g l = 2 ^ 64 - l.reader.accepted
