-- How each result of the engine relates to the bytes that were read and those that were written.
use Rattle.std.specs.Prelude.{◌<◌, ◌≡◌, ℕ, ◌+◌, ◌-◌, ◌^◌, ◌≤◌, min, List, length, take, drop, Option, None, Some}
use Rattle.std.specs.Prelude.{Result, Ok, Err}
use Rattle.std.specs.Io.KnownBytes.{Consumes, Appends}
use Rattle.link_capture_grammar.specs.declared.fault.FaultKind.{FaultKind}
use Rattle.link_capture_grammar.specs.declared.fault.FaultKind.TheVariants.{Cut, Memory, Read, Write, TooLong, Failed}
use Rattle.link_capture_grammar.specs.declared.fault.CaptureFault.{CaptureFault}
use Rattle.link_capture_grammar.specs.Captures.{first_fault, texts, ReachesFrameAt, IsLegal}
use Rattle.link_capture_reader.specs.Devices.{IsPrefix, Rises, ReportsItsEnd}
use Rattle.link_capture_reader.specs.Readers.{IsAcceptedOrCut}
use Rattle.link_capture_reader.specs.States.{SinkState, SourceState}
use Rattle.link_capture_grammar.specs.Body.{link_body}

-- The bytes so far have no fault, or a cut frame, which more bytes may complete.
abbrev pub HasNoFaultButCut : Option CaptureFault → Type 0
HasNoFaultButCut None = Unit {0}
HasNoFaultButCut (Some fault) = fault.kind ≡ Cut

-- More bytes than 64 bits can count were read: s. All but the last piece, of at most 65,536 bytes, were accepted, and
-- their texts w are written.
pub record IsTooLong (limit : ℕ) (s w : List ℕ) (at : ℕ) : Type 0 where
  pub long : 2 ^ 64 ≤ length s
  pub inside : at ≤ length s
  pub last : length s ≤ at + 65536
  pub is_open : HasNoFaultButCut (first_fault link_body limit (take at s))
  pub written : w ≡ texts link_body limit (take at s)

-- What holds if s was read, w was written, and a fault of this kind is returned at the offset `at`. The propositions
-- ended, read_failed and write_failed are what the devices reported. Memory runs out only at a frame that is accepted, or
-- cut in what was read; nothing is said about capacity, since reads have sizes that no contract sees.
abbrev pub IsNormalizeFault : Type 0 → Type 0 → Type 0 → ℕ → List ℕ → List ℕ → FaultKind → ℕ → Type 0
IsNormalizeFault ended read_failed write_failed limit s w Cut at = ended ×
    (first_fault link_body limit s ≡ Some (record { kind = Cut; offset = at })) × (w ≡ texts link_body limit s)
IsNormalizeFault ended read_failed write_failed limit s w Memory at =
    ReachesFrameAt link_body limit s at × IsAcceptedOrCut limit (drop at s) × (w ≡ texts link_body limit (take at s))
IsNormalizeFault ended read_failed write_failed limit s w Read at = read_failed × (at ≡ length s) ×
    HasNoFaultButCut (first_fault link_body limit s) × (w ≡ texts link_body limit s)
IsNormalizeFault ended read_failed write_failed limit s w Write at = write_failed × (at ≡ min (length w) (2 ^ 64 - 1)) ×
    IsPrefix w (texts link_body limit s)
IsNormalizeFault ended read_failed write_failed limit s w TooLong at = IsTooLong limit s w at
IsNormalizeFault ended read_failed write_failed limit s w Failed at = ⊥
IsNormalizeFault ended read_failed write_failed limit s w kind at =
    (first_fault link_body limit s ≡ Some (record { kind = kind; offset = at })) × (w ≡ texts link_body limit s)

-- What holds if s was read, w was written, and this result is returned.
abbrev pub IsNormalizeResult : Type 0 → Type 0 → Type 0 → ℕ → List ℕ → List ℕ → Result (Unit {0}) CaptureFault → Type 0
IsNormalizeResult ended read_failed write_failed limit s w (Ok x) = ended × IsLegal link_body limit s × (w ≡ texts link_body limit s)
IsNormalizeResult ended read_failed write_failed limit s w (Err fault) =
    IsNormalizeFault ended read_failed write_failed limit s w fault.kind fault.offset

-- The source was in the state `source_before` and is in `source_after`; likewise the sink. The difference is what was read
-- and what was written, for which the result holds.
abbrev pub Normalizes : SourceState → SourceState → SinkState → SinkState → ℕ → Result (Unit {0}) CaptureFault → Type 0
Normalizes source_before source_after sink_before sink_after limit result =
    (s w : List ℕ) × Consumes source_before.to_come source_after.to_come s × Appends sink_before.holds sink_after.holds w ×
    IsNormalizeResult (ReportsItsEnd source_before.ends_reported source_after.ends_reported source_after.to_come)
    (Rises source_before.failures source_after.failures) (Rises sink_before.failures sink_after.failures) limit s w result

-- The fault of `read_all` has this kind, after it has read s; the source's count of failures was `old` and is `new`.
abbrev pub ReadFault : ℕ → ℕ → List ℕ → FaultKind → Type 0
ReadFault old new s Read = Rises old new
ReadFault old new s Memory = (new ≡ old) × (0 < length s)
ReadFault old new s kind = ⊥
