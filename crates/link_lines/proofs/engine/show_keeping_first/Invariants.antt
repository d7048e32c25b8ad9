-- All that was read is shown, but perhaps a cut message.
use Rattle.std.proofs.Common.{◌≡◌, ◌+◌, ◌-◌, ◌^◌, ℕ, List, [], length, take}
use Rattle.link_lines.specs.Options.{selection_of}
use Rattle.link_lines.proofs.Progress.{Came}
use Rattle.link_lines.proofs.engine.show_keeping_first.Given as goal

abbrev pub invariant-pieces : goal.invariant-pieces
invariant-pieces g l = record {
  empty : l.lines.items ≡ [];
  source_failures : g.S.Source.failures l.source ≡ g.S.Source.failures l.fn.source;
  ends : g.S.Source.ends_reported l.source ≡ g.S.Source.ends_reported l.fn.source;
  sink_failures : g.K.Sink.failures l.sink ≡ g.K.Sink.failures l.fn.sink;
  came : (s : List ℕ) × Came (selection_of l.fn.options) l.limit l.start l.padding l.rest.items l.found l.written (g.S.Source.to_come l.fn.source) (g.S.Source.to_come l.source) (g.K.Sink.holds l.fn.sink) (g.K.Sink.holds l.sink) s × (l.first.items ≡ take 4 s);
}

abbrev pub decreases-pieces : goal.decreases-pieces
decreases-pieces g l = 2 ^ 64 - (l.start + length l.rest.items)
