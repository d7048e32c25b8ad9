-- The bytes of records.
use Rattle.std.specs.Prelude.{ℕ, List}
use Rattle.link_message_types.specs.declared.record_buffer.RecordBuffer.{RecordBuffer}

-- The bytes that a buffer holds.
abbrev pub record_bytes : {R : Type 0} {n : ℕ} → RecordBuffer R n → List ℕ
record_bytes b = b.bytes
