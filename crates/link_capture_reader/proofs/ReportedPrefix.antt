-- What was written to a sink.
use Rattle.std.proofs.Common.{◌≡◌, ℕ, List, false, take, drop, sym, ◌∙◌}
use Rattle.std.proofs.lemmas.List.{take-append-drop}
use Rattle.std.specs.Io.KnownBytes.{Appends}
use Rattle.link_capture_reader.specs.Devices.{Rises}
use Rattle.link_capture_reader.specs.States.{SinkState, IsReported}

-- the sink failed after a prefix of the text
pub reported_prefix : (before after : SinkState) (bytes text : List ℕ) (n : ℕ) → bytes ≡ text → Rises before.failures after.failures → Appends before.holds after.holds (take n bytes) → IsReported before after text false
reported_prefix before after bytes text n e r a = (r, (take n bytes, (drop n bytes, sym e ∙ sym (take-append-drop n bytes)), a))
