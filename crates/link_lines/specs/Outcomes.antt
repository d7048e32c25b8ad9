-- What a result says about the bytes that were read and the lines that were written.
use Rattle.std.specs.Prelude.{◌≡◌, ◌⊎◌, ℕ, ◌+◌, ◌-◌, ◌^◌, ◌<◌, ◌≤◌, min, Bool, true, false, List, [], ◌∷◌, ◌++◌}
use Rattle.std.specs.Prelude.{length, take, drop, Option, None, Some, Result, Ok, Err}
use Rattle.std.specs.Io.KnownBytes.{Consumes, Appends}
use Rattle.link_capture_grammar.specs.declared.fault.CaptureFault.{CaptureFault}
use Rattle.link_capture_grammar.specs.declared.fault.FaultKind.{FaultKind}
use Rattle.link_capture_grammar.specs.declared.fault.FaultKind.TheVariants.{Cut, Memory, Read, Write, TooLong, Failed}
use Rattle.link_capture_grammar.specs.Captures.{first_fault, first_frame, IsLegal}
use Rattle.link_capture_reader.specs.Outcomes.{HasNoFaultButCut}
use Rattle.link_capture_reader.specs.Devices.{IsPrefix, Rises, ReportsItsEnd}
use Rattle.link_capture_reader.specs.States.{SinkState, SourceState}
use Rattle.link_capture_refusals.specs.RefusalViews.{optional_found}
use Rattle.link_lines.specs.MessageLines.{Selection, lines_of_messages, shown}
use Rattle.link_lines.specs.Messages.{Message, is_of_body, last_fault, messages, messages_at}
use Rattle.link_lines.specs.Refused.{reported_refusal}
use Rattle.link_lines.specs.declared.refused.ShowFault.{ShowFault}
use Rattle.link_message_grammar.specs.Body.{link_body}

-- The first message of c is accepted.
abbrev pub IsAccepted : ℕ → List ℕ → Type 0
IsAccepted limit c = (frame : ℕ × List ℕ) × (first_frame link_body limit c ≡ Ok frame)

-- The first message of c has a fault of its body.
abbrev pub HasFaultyBody : ℕ → List ℕ → Type 0
HasFaultyBody limit c = (kind : FaultKind) × (first_frame link_body limit c ≡ Err kind) × (is_of_body kind ≡ true)

-- The first message of c is shown: it is accepted; or its body has a fault, and such messages are shown too.
abbrev pub IsToBeShown : Bool → ℕ → List ℕ → Type 0
IsToBeShown keep_going limit c = IsAccepted limit c ⊎ ((keep_going ≡ true) × HasFaultyBody limit c)

-- At an offset of c a message begins, showing doesn't stop at those before it, and w are their lines.
pub record ComesTo (o : Selection) (limit : ℕ) (c w : List ℕ) (at : ℕ) : Type 0 where
  pub inside : at < length c
  pub before : List Message
  pub all : messages o.keep_going limit c ≡ before ++ messages_at o.keep_going limit at (drop at c)
  pub goes_on : last_fault before ≡ None
  pub written : w ≡ lines_of_messages o before

-- Memory ran out at an offset of c: the message there is to be shown, and w are the lines of those before it.
abbrev pub RunsOutAt : Selection → ℕ → List ℕ → List ℕ → ℕ → Type 0
RunsOutAt o limit c w at = ComesTo o limit c w at × IsToBeShown o.keep_going limit (drop at c)

-- Memory ran out at an offset of what was read: the message there is to be shown; or it is cut, and its bytes had to be
-- kept.
abbrev pub RunsOutReading : Selection → ℕ → List ℕ → List ℕ → ℕ → Type 0
RunsOutReading o limit s w at = ComesTo o limit s w at ×
    (IsToBeShown o.keep_going limit (drop at s) ⊎ (first_frame link_body limit (drop at s) ≡ Err Cut))

-- The first `at` bytes of s were shown: showing doesn't stop in them, except at a message that is cut, and w are their
-- lines.
pub record ShowsPrefix (o : Selection) (limit : ℕ) (s w : List ℕ) (at : ℕ) : Type 0 where
  pub inside : at ≤ length s
  pub is_open : HasNoFaultButCut (last_fault (messages o.keep_going limit (take at s)))
  pub written : w ≡ shown o limit (take at s)

-- More bytes were read than can be counted. All of them but the last piece, of at most 65,536 bytes, were shown.
pub record ShowsTooLong (o : Selection) (limit : ℕ) (s w : List ℕ) (at : ℕ) : Type 0 where
  pub long : 2 ^ 64 ≤ length s
  pub last : length s ≤ at + 65536
  pub prefix : ShowsPrefix o limit s w at

-- The source reported its end, unless showing stops at a message that isn't cut.
abbrev pub IsReadThrough : Option CaptureFault → Type 0 → Type 0
IsReadThrough None ended = ended
IsReadThrough (Some fault) ended = fault.kind ≡ Cut → ended

-- The bytes s were read, w was written, and the result is a fault of this kind at this offset. The propositions ended,
-- read_failed and write_failed are what the devices reported.
abbrev pub IsShowFault : Selection → Type 0 → Type 0 → Type 0 → ℕ → List ℕ → List ℕ → FaultKind → ℕ → Type 0
IsShowFault o ended read_failed write_failed limit s w Memory at = RunsOutReading o limit s w at
IsShowFault o ended read_failed write_failed limit s w Read at = read_failed × (at ≡ length s) × ShowsPrefix o limit s w at
IsShowFault o ended read_failed write_failed limit s w Write at = write_failed × (at ≡ min (length w) (2 ^ 64 - 1)) ×
    IsPrefix w (shown o limit s)
IsShowFault o ended read_failed write_failed limit s w TooLong at = ShowsTooLong o limit s w at
IsShowFault o ended read_failed write_failed limit s w Failed at = ⊥
IsShowFault o ended read_failed write_failed limit s w kind at =
    (first_fault link_body limit s ≡ Some (record { kind = kind; offset = at })) ×
    IsReadThrough (last_fault (messages o.keep_going limit s)) ended × (w ≡ shown o limit s)

-- Whether bytes aren't empty.
abbrev pub has_bytes : List ℕ → Bool
has_bytes [] = false
has_bytes (b ∷ w) = true

-- The bytes s were read, w was written, and this is the result: whether w has lines; or a fault, with the reason of a
-- refused body.
abbrev pub IsShowResult : Selection → Type 0 → Type 0 → Type 0 → ℕ → List ℕ → List ℕ → Result Bool ShowFault → Type 0
IsShowResult o ended read_failed write_failed limit s w (Ok has_lines) =
    ended × IsLegal link_body limit s × (w ≡ shown o limit s) × (has_lines ≡ has_bytes w)
IsShowResult o ended read_failed write_failed limit s w (Err e) =
    IsShowFault o ended read_failed write_failed limit s w e.fault.kind e.fault.offset ×
    (optional_found e.refusal ≡ reported_refusal s e.fault.kind e.fault.offset)

-- The source was in the state `source_before` and is in `source_after`; likewise the sink. The difference is what was read
-- and what was written, for which the result holds.
abbrev pub Shows : Selection → SourceState → SourceState → SinkState → SinkState → ℕ → Result Bool ShowFault → Type 0
Shows o source_before source_after sink_before sink_after limit result =
    (s w : List ℕ) × Consumes source_before.to_come source_after.to_come s × Appends sink_before.holds sink_after.holds w ×
    IsShowResult o (ReportsItsEnd source_before.ends_reported source_after.ends_reported source_after.to_come)
    (Rises source_before.failures source_after.failures) (Rises sink_before.failures sink_after.failures) limit s w result

-- The same relation for a call that keeps the first bytes of what was read, which are `first`.
abbrev pub ShowsKeeping : List ℕ → Selection → SourceState → SourceState → SinkState → SinkState → ℕ →
    Result Bool ShowFault → Type 0
ShowsKeeping first o source_before source_after sink_before sink_after limit result =
    (s w : List ℕ) × Consumes source_before.to_come source_after.to_come s × Appends sink_before.holds sink_after.holds w ×
    IsShowResult o (ReportsItsEnd source_before.ends_reported source_after.ends_reported source_after.to_come)
    (Rises source_before.failures source_after.failures) (Rises sink_before.failures sink_after.failures) limit s w result ×
    (first ≡ take 4 s)
