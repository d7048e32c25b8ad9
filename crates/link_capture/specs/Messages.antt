-- The messages of a capture, as an iterator yields them.
use Rattle.std.specs.Prelude.{◌≡◌, ◌≢◌, ℕ, ◌+◌, ◌≤◌, ◌<◌, List, [], length, drop, Option, None, Some, Result, Ok, Err}
use Rattle.netlink_packet_core_grammar.specs.Attributes.{nla_align}
use Rattle.netlink_packet_core.specs.NetlinkMessage.{NetlinkMessage}
use Rattle.link_capture_grammar.specs.declared.fault.CaptureFault.{CaptureFault}
use Rattle.link_capture_grammar.specs.declared.fault.FaultKind.{FaultKind}
use Rattle.link_capture_grammar.specs.Captures.{first_fault, first_frame, shifted, IsLegal}
use Rattle.link_capture.specs.declared.route.RouteLink.{RouteLink}
use Rattle.link_capture.specs.Texts.{IsFirstMessage}
use Rattle.link_message_grammar.specs.Body.{link_body}

-- The state of an iterator over the messages of a capture: those from `offset` on remain; after a fault the capture is
-- replaced by an empty one.
pub record MessagesLeft : Type 0 where
  pub limit : ℕ
  pub capture : List ℕ
  pub offset : ℕ

-- The invariant of the iterator: the capture's first fault is that of the bytes from `offset` on; `offset` is at most 3
-- past the end.
pub record FirstFaultIsAhead (s : MessagesLeft) : Type 0 where
  pub near : s.offset ≤ length s.capture + 3
  pub fault : first_fault link_body s.limit s.capture ≡ shifted s.offset (first_fault link_body s.limit (drop s.offset s.capture))

-- The fault is the capture's first one, or an allocation failed at an accepted frame.
pub record YieldsFault (s : MessagesLeft) (fault : CaptureFault) : Type 0 where
  pub offset : fault.offset ≡ s.offset
  pub first : fault.kind ≢ FaultKind.Memory → first_fault link_body s.limit s.capture ≡ Some fault
  pub memory : fault.kind ≡ FaultKind.Memory →
      (n : ℕ) × (text : List ℕ) × (first_frame link_body s.limit (drop s.offset s.capture) ≡ Ok (n, text))

-- A step of the iterator yields the next message, the fault, or the end of a legal capture.
abbrev pub IsNext : MessagesLeft → Option (Result (NetlinkMessage RouteLink) CaptureFault) → MessagesLeft → Type 0
IsNext s None t = (length s.capture ≤ s.offset) × IsLegal link_body s.limit s.capture × (t ≡ s)
IsNext s (Some (Ok message)) t =
    (s.offset < length s.capture)
    × ((n : ℕ) × IsFirstMessage s.limit (drop s.offset s.capture) n message ×
    (t ≡ record { limit = s.limit; capture = s.capture; offset = s.offset + nla_align n }))
IsNext s (Some (Err fault)) t = (s.offset < length s.capture) × YieldsFault s fault ×
    (t ≡ record { limit = s.limit; capture = []; offset = 0 })
