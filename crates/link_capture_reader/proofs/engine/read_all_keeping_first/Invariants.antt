-- the bytes are those that were read
use Rattle.std.proofs.Common.{◌≡◌, ◌-◌, ◌^◌, length, take}
use Rattle.std.specs.Io.KnownBytes.{Consumes}
use Rattle.link_capture_reader.proofs.engine.read_all_keeping_first.Given as goal

abbrev pub invariant-pieces : goal.invariant-pieces
invariant-pieces g l = record {
  consumed : Consumes (g.S.Source.to_come l.fn.source) (g.S.Source.to_come l.source) l.bytes.items;
  first : l.first.items ≡ take 4 l.bytes.items;
  failures : g.S.Source.failures l.source ≡ g.S.Source.failures l.fn.source;
  ends : g.S.Source.ends_reported l.source ≡ g.S.Source.ends_reported l.fn.source;
}

abbrev pub decreases-pieces : goal.decreases-pieces
decreases-pieces g l = 2 ^ 64 - length l.bytes.items
