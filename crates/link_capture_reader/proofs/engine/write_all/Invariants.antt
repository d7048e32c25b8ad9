-- the first `at` bytes are written, and nothing failed
use Rattle.std.proofs.Common.{◌≡◌, ◌≤◌, ◌-◌, length, take}
use Rattle.std.specs.Io.KnownBytes.{Appends}
use Rattle.link_capture_reader.proofs.engine.write_all.Given as goal

abbrev pub invariant-loop-at : goal.invariant-loop-at
invariant-loop-at g l = record {
  inside : l.at ≤ length l.bytes;
  wrote : Appends (g.K.Sink.holds l.fn.sink) (g.K.Sink.holds l.sink) (take l.at l.bytes);
  failures : g.K.Sink.failures l.sink ≡ g.K.Sink.failures l.fn.sink;
}

abbrev pub decreases-loop-at : goal.decreases-loop-at
decreases-loop-at g l = length l.bytes - l.at
