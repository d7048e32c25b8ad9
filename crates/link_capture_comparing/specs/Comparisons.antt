-- How the result of comparing two sources relates to what was read of each.
use Rattle.std.specs.Prelude.{◌≡◌, ℕ, ◌+◌, ◌^◌, ◌≤◌, ◌⊎◌, ◌↔◌, Bool, true, false, List, length, Some, Result, Ok, Err}
use Rattle.std.specs.Io.KnownBytes.{Consumes}
use Rattle.link_capture_grammar.specs.declared.fault.FaultKind.{FaultKind}
use Rattle.link_capture_grammar.specs.declared.fault.FaultKind.TheVariants.{Cut, Memory, Read, TooLong}
use Rattle.link_capture_grammar.specs.declared.fault.CaptureFault.{CaptureFault}
use Rattle.link_capture_grammar.specs.Captures.{first_fault, IsLegal}
use Rattle.link_capture_grammar.specs.Same.{SameCapture}
use Rattle.link_capture_checks.specs.declared.sameness.SideFault.{SideFault}
use Rattle.link_capture_reader.specs.Devices.{Rises, ReportsItsEnd, IsPrefix}
use Rattle.link_capture_reader.specs.States.{SourceState}
use Rattle.link_capture_grammar.specs.Body.{link_body}

-- A source was read to its end, which it reported once, and it never failed: these are its bytes.
pub record IsReadWhole (before after : SourceState) (s : List ℕ) : Type 0 where
  pub bytes : Consumes before.to_come after.to_come s
  pub failures : after.failures ≡ before.failures
  pub end : ReportsItsEnd before.ends_reported after.ends_reported after.to_come

-- Why a source, of which s was read, wasn't read to its end: it failed, or there are more bytes than 64 bits can count.
-- The offset is the number of bytes read, in the second case of those before the last piece, of at most 32,768 bytes.
abbrev pub ReadFails : SourceState → SourceState → List ℕ → FaultKind → ℕ → Type 0
ReadFails before after s Read at = Rises before.failures after.failures × (at ≡ length s)
ReadFails before after s TooLong at = (2 ^ 64 ≤ length s) × (at ≤ length s) × (length s ≤ at + 32768)
ReadFails before after s kind at = ⊥

-- A source was read up to this fault: these are its bytes so far.
pub record IsReadUpTo (before after : SourceState) (s : List ℕ) (fault : CaptureFault) : Type 0 where
  pub bytes : Consumes before.to_come after.to_come s
  pub stops : ReadFails before after s fault.kind fault.offset

-- The fault of a capture, of which s was read: its first fault; or no memory, at a frame that was cut in what had been
-- read by then, and whose bytes had to be kept.
abbrev pub IsFaultAt : ℕ → List ℕ → FaultKind → ℕ → Type 0
IsFaultAt limit s Memory at =
    (known : List ℕ) × IsPrefix known s × (first_fault link_body limit known ≡ Some (record { kind = Cut; offset = at }))
IsFaultAt limit s kind at = first_fault link_body limit s ≡ Some (record { kind = kind; offset = at })

-- The fault of a capture, of which s was read.
abbrev pub IsFaultOf : ℕ → List ℕ → CaptureFault → Type 0
IsFaultOf limit s fault = IsFaultAt limit s fault.kind fault.offset

-- The states of two sources before and after they were compared.
pub record Sources : Type 0 where
  pub left_before : SourceState
  pub left_after : SourceState
  pub right_before : SourceState
  pub right_after : SourceState

-- The states of two sources before and after, as their traits describe them.
abbrev pub sources_of : {S T : Type 0} → (S → SourceState) → (T → SourceState) → S → S → T → T → Sources
sources_of left right left_before left_after right_before right_after = record {
  left_before = left left_before;
  left_after = left left_after;
  right_before = right right_before;
  right_after = right right_after;
}

-- The fault of the first source, of which a was read, while b was read of the second: the first couldn't be read; or
-- both were read to their ends, and the first capture has this fault.
abbrev pub FirstFails : Sources → ℕ → List ℕ → List ℕ → CaptureFault → Type 0
FirstFails q limit a b fault =
    (IsReadUpTo q.left_before q.left_after a fault × Consumes q.right_before.to_come q.right_after.to_come b)
    ⊎ (IsReadWhole q.left_before q.left_after a × IsReadWhole q.right_before q.right_after b × IsFaultOf limit a fault)

-- The fault of the second source, of which b was read, after a, all of the first: the second couldn't be read; or it was
-- read to its end, the first capture is legal, and the second has this fault.
abbrev pub SecondFails : Sources → ℕ → List ℕ → List ℕ → CaptureFault → Type 0
SecondFails q limit a b fault =
    IsReadWhole q.left_before q.left_after a
    × (IsReadUpTo q.right_before q.right_after b fault
    ⊎ (IsReadWhole q.right_before q.right_after b × IsLegal link_body limit a × IsFaultOf limit b fault))

-- What holds if a was read of the first source and b of the second, and the fault of a source is returned.
abbrev pub FailsBy : Sources → ℕ → List ℕ → List ℕ → Bool → CaptureFault → Type 0
FailsBy q limit a b false fault = FirstFails q limit a b fault
FailsBy q limit a b true fault = SecondFails q limit a b fault

-- What holds if a was read of the first source and b of the second, and this result is returned.
abbrev pub IsCompareResult : Sources → ℕ → List ℕ → List ℕ → Result Bool SideFault → Type 0
IsCompareResult q limit a b (Ok is_same) =
    IsReadWhole q.left_before q.left_after a × IsReadWhole q.right_before q.right_after b
    × IsLegal link_body limit a × IsLegal link_body limit b × ((is_same ≡ true) ↔ SameCapture link_body limit a b)
IsCompareResult q limit a b (Err e) = FailsBy q limit a b e.second e.fault

-- Two sources were compared with this result.
abbrev pub ComparesSources : Sources → ℕ → Result Bool SideFault → Type 0
ComparesSources q limit result = (a b : List ℕ) × IsCompareResult q limit a b result
