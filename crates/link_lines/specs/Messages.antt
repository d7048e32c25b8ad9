-- The messages of a capture in order: up to the first fault, or past messages with a fault of their body.
use Rattle.std.specs.Prelude.{ℕ, ◌+◌, ◌^◌, nat_lt, Bool, true, false, cond, List, [], ◌∷◌, length, take}
use Rattle.std.specs.Prelude.{Option, None, Some, Ok, Err}
use Rattle.netlink_packet_core_grammar.specs.Attributes.{nla_align}
use Rattle.netlink_packet_core_grammar.specs.Frames.{frame_length}
use Rattle.link_capture_grammar.specs.Captures.{Judged, first_frame}
use Rattle.link_capture_grammar.specs.WholeFrames.{whole_frames}
use Rattle.link_capture_grammar.specs.declared.fault.CaptureFault.{CaptureFault}
use Rattle.link_capture_grammar.specs.declared.fault.FaultKind.{FaultKind}
use Rattle.link_capture_grammar.specs.declared.fault.FaultKind.TheVariants.{EmptyPorts, Refused, TextOverLimit, Unfit}
use Rattle.link_capture_refusals.specs.Refusals.{Found, frame_refusal}
use Rattle.link_message_grammar.specs.Body.{link_body}

-- A message at an offset: accepted, with its normal text; or with a fault of its body, and its bytes, and followed by
-- others; or with the fault at which showing stops, and its bytes if the fault is one of its body.
pub data Message : Type 0 where
  Accepted : ℕ → List ℕ → Message
  Faulty : ℕ → FaultKind → List ℕ → Message
  Last : ℕ → FaultKind → List ℕ → Message

-- Whether a fault is one of a message's body, so that the message's end is known.
abbrev pub is_of_body : FaultKind → Bool
is_of_body Refused = true
is_of_body EmptyPorts = true
is_of_body Unfit = true
is_of_body TextOverLimit = true
is_of_body kind = false

-- The first frame's bytes, by the length in its header.
abbrev pub frame_of : List ℕ → List ℕ
frame_of c = take (frame_length c) c

-- The messages from one at an offset on, given by its bytes, the result for it, and the messages after it.
abbrev pub next_messages : Bool → ℕ → List ℕ → Judged → List Message → List Message
next_messages keep_going offset frame (Ok accepted) more = Accepted offset accepted.1 ∷ more
next_messages keep_going offset frame (Err kind) more =
    cond (is_of_body kind) (cond keep_going (Faulty offset kind frame ∷ more) (Last offset kind frame ∷ []))
    (Last offset kind [] ∷ [])

-- The messages of whole frames, of which the first one is at an offset, and of the bytes after them.
abbrev pub frames_messages : Bool → ℕ → ℕ → List (List ℕ) → List ℕ → List Message
frames_messages keep_going limit offset [] [] = []
frames_messages keep_going limit offset [] (b ∷ c) =
    next_messages keep_going offset (frame_of (b ∷ c)) (first_frame link_body limit (b ∷ c)) []
frames_messages keep_going limit offset (f ∷ fs) rest =
    next_messages keep_going offset (frame_of f) (first_frame link_body limit f)
    (frames_messages keep_going limit (offset + nla_align (frame_length f)) fs rest)

-- The messages of bytes at an offset of a capture.
unfoldable pub messages_at : Bool → ℕ → ℕ → List ℕ → List Message
messages_at keep_going limit offset c =
    frames_messages keep_going limit offset (whole_frames c).frames (whole_frames c).rest

-- The messages of a capture.
abbrev pub messages : Bool → ℕ → List ℕ → List Message
messages keep_going limit c = messages_at keep_going limit 0 c

-- The fault at which showing stops, if it stops before the end.
abbrev pub last_fault : List Message → Option CaptureFault
last_fault [] = None
last_fault (Accepted offset text ∷ more) = last_fault more
last_fault (Faulty offset kind frame ∷ more) = last_fault more
last_fault (Last offset kind frame ∷ more) = Some (record { kind = kind; offset = offset })

-- The reason of a refused body, given its message and the message's offset; none if the message ends 2^63 bytes or more
-- after the capture's start.
abbrev pub frame_reason : FaultKind → ℕ → List ℕ → Option Found
frame_reason Refused offset frame = cond (nat_lt (offset + length frame) (2 ^ 63)) (frame_refusal offset frame) None
frame_reason kind offset frame = None

-- A fault with the reason of a refused body.
abbrev pub Report : Type 0
Report = CaptureFault × Option Found

-- The report of a fault of a message at an offset.
abbrev pub report_of : ℕ → FaultKind → List ℕ → Report
report_of offset kind frame = (record { kind = kind; offset = offset }, frame_reason kind offset frame)

-- The report of the first fault.
abbrev pub first_report : List Message → Option Report
first_report [] = None
first_report (Accepted offset text ∷ more) = first_report more
first_report (Faulty offset kind frame ∷ more) = Some (report_of offset kind frame)
first_report (Last offset kind frame ∷ more) = Some (report_of offset kind frame)
