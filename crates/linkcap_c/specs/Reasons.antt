-- Why the first fault of a piece is a refused body.
use Rattle.std.specs.Prelude.{ℕ, ◌+◌, List, drop, Option, None, Some}
use Rattle.link_capture_grammar.specs.Captures.{first_fault}
use Rattle.link_capture_grammar.specs.declared.fault.CaptureFault.{CaptureFault}
use Rattle.link_capture_grammar.specs.declared.fault.FaultKind.{FaultKind}
use Rattle.link_capture_grammar.specs.declared.fault.FaultKind.TheVariants.{Refused}
use Rattle.link_capture_refusals.specs.Refusals.{Found, frame_refusal}
use Rattle.linkcap_c.specs.declared.writing.LinkcapPiece.{LinkcapPiece}
use Rattle.link_capture_grammar.specs.Body.{link_body}

-- The refusal of the message at an offset of c, which is at `start`, if its fault is a refused body.
abbrev pub message_refusal : ℕ → List ℕ → ℕ → FaultKind → Option Found
message_refusal start c offset Refused = frame_refusal (start + offset) (drop offset c)
message_refusal start c offset _ = None

-- The refusal of bytes at an offset of a capture, by their first fault.
abbrev pub refusal_in : ℕ → List ℕ → Option CaptureFault → Option Found
refusal_in start c None = None
refusal_in start c (Some fault) = message_refusal start c fault.offset fault.kind

-- The refusal of a piece, if its first fault is a refused body.
abbrev pub refusal_of : ℕ → LinkcapPiece → Option Found
refusal_of limit piece = refusal_in piece.offset piece.bytes.now (first_fault link_body limit piece.bytes.now)
