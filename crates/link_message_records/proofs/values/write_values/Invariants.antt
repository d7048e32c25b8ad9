-- The numbers written so far are at the start of the buffer, followed by what was there.
use Rattle.std.proofs.Common.{◌≡◌, ◌++◌, length, take, drop}
use Rattle.std.specs.List.{flat_map}
use Rattle.link_message_records.proofs.values.write_values.Given as goal

abbrev pub invariant-loop-value : goal.invariant-loop-value
invariant-loop-value g l = record {
  position : length (flat_map g.T.Fields.bytes (take l.value-index l.values)) ≡ l.at;
  text : l.buffer ≡ flat_map g.T.Fields.bytes (take l.value-index l.values) ++ drop l.at l.initial.buffer;
}
