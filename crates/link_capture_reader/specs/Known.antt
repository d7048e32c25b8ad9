-- The numbers and bytes that the devices of this crate hold.
use Rattle.std.specs.Prelude.{ℕ, List, vec_capacity}
use Rattle.link_capture_reader.specs.declared.sources.SliceSource.{SliceSource}
use Rattle.link_capture_reader.specs.declared.sources.ReadSource.{ReadSource}
use Rattle.link_capture_reader.specs.declared.sinks.VecSink.{VecSink}
use Rattle.link_capture_reader.specs.declared.sinks.WriteSink.{WriteSink}

-- The bytes of a slice that are still to come.
abbrev pub slice_rest : SliceSource → List ℕ
slice_rest s = s.rest.now

-- How often the end of a slice was reported.
abbrev pub slice_ends_reported : SliceSource → ℕ
slice_ends_reported s = s.ends_reported

-- The reader of a source.
abbrev pub source_reader : {R : Type 0} → ReadSource R → R
source_reader s = s.reader

-- How often the reader of a source failed.
abbrev pub source_failures : {R : Type 0} → ReadSource R → ℕ
source_failures s = s.failures

-- How often the reader of a source reported its end.
abbrev pub source_ends_reported : {R : Type 0} → ReadSource R → ℕ
source_ends_reported s = s.ends_reported

-- The bytes that a sink in memory holds.
abbrev pub sink_bytes : VecSink → List ℕ
sink_bytes s = s.bytes.items

-- The capacity of a sink in memory, in bytes.
abbrev pub sink_capacity : VecSink → ℕ
sink_capacity s = vec_capacity s.bytes

-- How often an allocation failed in a sink in memory.
abbrev pub growths_refused : VecSink → ℕ
growths_refused s = s.failures

-- The writer of a sink.
abbrev pub sink_writer : {W : Type 0} → WriteSink W → W
sink_writer s = s.writer

-- How often the writer of a sink failed.
abbrev pub sink_failures : {W : Type 0} → WriteSink W → ℕ
sink_failures s = s.failures
