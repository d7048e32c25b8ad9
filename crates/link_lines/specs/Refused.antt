-- The reason of a refused body, and the texts of faults.
use Rattle.std.specs.Prelude.{ℕ, List, [], ◌++◌, codes, drop, Option, None, Some}
use Rattle.link_capture_grammar.specs.declared.fault.CaptureFault.{CaptureFault}
use Rattle.link_capture_grammar.specs.declared.fault.FaultKind.{FaultKind}
use Rattle.link_capture_grammar.specs.Faults.{fault_text}
use Rattle.link_capture_refusals.specs.Refusals.{Found}
use Rattle.link_capture_refusals.specs.RefusalViews.{found}
use Rattle.link_capture_refusals.specs.RefusalTexts.{refusal_text}
use Rattle.link_capture_refusals.specs.declared.refusal.Refusal.{Refusal}
use Rattle.link_lines.specs.Messages.{frame_of, frame_reason}
use Rattle.link_lines.specs.declared.refused.ShowFault.{ShowFault}

-- The reason of the refused body at this offset of s, if that is the fault; none if its message ends 2^63 bytes or more
-- after the start.
abbrev pub reported_refusal : List ℕ → FaultKind → ℕ → Option Found
reported_refusal s kind at = frame_reason kind at (frame_of (drop at s))

-- A fault that isn't a refused body.
abbrev pub without_refusal : CaptureFault → ShowFault
without_refusal fault = record { fault = fault; refusal = None }

-- ---- texts

-- The text of a reason, or nothing.
abbrev pub refusal_message : Option Refusal → List ℕ
refusal_message None = []
refusal_message (Some r) = codes ": " ++ refusal_text (found r)

-- The text of a fault with its offset, and of the reason.
abbrev pub fault_message : ShowFault → List ℕ
fault_message e = fault_text e.fault ++ refusal_message e.refusal
