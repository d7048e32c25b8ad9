-- Laws of the messages of a capture, as the functions of `message_laws` state them.
use Rattle.std.specs.Prelude.{◌≡◌, ℕ, ◌+◌, ◌<◌, ◌^◌, Bool, true, false, List, [], ◌∷◌, drop, length, None}
use Rattle.std.specs.Prelude.{Ok, Err, option_map, ◌↔◌}
use Rattle.netlink_packet_core_grammar.specs.Attributes.{nla_align}
use Rattle.netlink_packet_core_grammar.specs.Bytes.{AreBytes}
use Rattle.netlink_packet_core_grammar.specs.Frames.{BeginsWithFrame, frame_length, after_frame}
use Rattle.link_capture_grammar.specs.Captures.{first_frame, first_fault}
use Rattle.link_capture_grammar.specs.declared.fault.CaptureFault.{CaptureFault}
use Rattle.link_capture_grammar.specs.declared.fault.FaultKind.{FaultKind}
use Rattle.link_lines_texts.specs.Captures.{Choice, everything, lines}
use Rattle.link_lines_parts.specs.Remaining.{nothing_omitted, numbers_omitted, remaining_lines}
use Rattle.link_lines.specs.MessageLines.{Selection, shown}
use Rattle.link_lines.specs.Messages.{Message, Message.Accepted, Message.Faulty, Message.Last, Report, first_report}
use Rattle.link_lines.specs.Messages.{frame_of, frame_reason, is_of_body, messages, messages_at}
use Rattle.link_message_grammar.specs.Body.{link_body}
use Rattle.link_capture_grammar.specs.Laws.{IsLimit}

-- The messages of bytes are determined one by one.
pub record MessagesUnfold : Type 0 where
  pub none : (k : Bool) (limit offset : ℕ) → messages_at k limit offset [] ≡ []
  pub accepted : (k : Bool) (limit offset : ℕ) (c : List ℕ) (frame : ℕ × List ℕ) → first_frame link_body limit c ≡ Ok frame →
      messages_at k limit offset c ≡
      Accepted offset frame.1 ∷ messages_at k limit (offset + nla_align frame.0) (drop (nla_align frame.0) c)
  pub faulty : (limit offset : ℕ) (c : List ℕ) (kind : FaultKind) → first_frame link_body limit c ≡ Err kind →
      is_of_body kind ≡ true → BeginsWithFrame c → messages_at true limit offset c ≡
      Faulty offset kind (frame_of c) ∷
      messages_at true limit (offset + nla_align (frame_length c)) (after_frame c)
  pub stopped : (limit offset : ℕ) (c : List ℕ) (kind : FaultKind) → first_frame link_body limit c ≡ Err kind →
      is_of_body kind ≡ true → BeginsWithFrame c → messages_at false limit offset c ≡ Last offset kind (frame_of c) ∷ []
  pub invalid : (k : Bool) (limit offset b : ℕ) (c : List ℕ) (kind : FaultKind) → first_frame link_body limit (b ∷ c) ≡ Err kind →
      is_of_body kind ≡ false → messages_at k limit offset (b ∷ c) ≡ Last offset kind [] ∷ []

-- The report of a capture's fault.
abbrev pub report_of_fault : List ℕ → CaptureFault → Report
report_of_fault c fault = (fault, frame_reason fault.kind fault.offset (frame_of (drop fault.offset c)))

-- The first report of a capture's messages is that of its first fault.
abbrev pub FirstFaultsAreReported : Type 0
FirstFaultsAreReported = (k : Bool) (limit : ℕ) (c : List ℕ) →
    first_report (messages k limit c) ≡ option_map (report_of_fault c) (first_fault link_body limit c)

-- All lines remain if nothing is left out but numbers.
abbrev pub NothingOmittedKeepsAll : Type 0
NothingOmittedKeepsAll = (numbers : Bool) (text : List ℕ) → remaining_lines (numbers_omitted numbers) text ≡ text

-- The selection that shows what the choice shows, up to the first fault.
abbrev pub plain : Choice → Selection
plain choice = record {
  numbers = choice.numbers;
  only = choice.only;
  link = None;
  omitted = nothing_omitted;
  offsets = false;
  keep_going = false;
  json = false;
}

-- A capture of which the choice is shown up to its first fault has the lines of its texts.
abbrev pub LinesOfMessagesAreOfTexts : Type 0
LinesOfMessagesAreOfTexts = (choice : Choice) (limit : ℕ) (c : List ℕ) → IsLimit limit →
    shown (plain choice) limit c ≡ lines choice limit c

-- The selection that shows all of each message, also of one with a fault of its body.
abbrev pub all_messages : Selection
all_messages = record (plain everything) { keep_going = true }

-- The content of a message: the normal text of an accepted one, or the bytes of one with a fault of its body.
pub data Content : Type 0 where
  Text : List ℕ → Content
  Frame : List ℕ → Content

-- The contents of messages in order. One at which showing stops has none.
abbrev pub contents : List Message → List Content
contents [] = []
contents (Accepted offset text ∷ more) = Text text ∷ contents more
contents (Faulty offset kind frame ∷ more) = Frame frame ∷ contents more
contents (Last offset kind frame ∷ more) = contents more

-- Under `all_messages`, two captures have the same lines if and only if their messages have the same contents, one by one. These are
-- all messages if each fault is one of a body. The lines of such a message leave out the length in its header, which is
-- that of the bytes that they have; its content leaves out the fault, which its bytes determine.
abbrev pub LinesDetermineContents : Type 0
LinesDetermineContents = (limit : ℕ) (c d : List ℕ) → IsLimit limit → AreBytes c → AreBytes d →
    (shown all_messages limit c ≡ shown all_messages limit d) ↔
    (contents (messages true limit c) ≡ contents (messages true limit d))

-- The selection that also shows each message's offset.
abbrev pub all_messages_with_offsets : Selection
all_messages_with_offsets = record all_messages { offsets = true }

-- The contents of messages in order, each with the message's offset. One at which showing stops has none.
abbrev pub contents_with_offsets : List Message → List (ℕ × Content)
contents_with_offsets [] = []
contents_with_offsets (Accepted offset text ∷ more) = (offset, Text text) ∷ contents_with_offsets more
contents_with_offsets (Faulty offset kind frame ∷ more) = (offset, Frame frame) ∷ contents_with_offsets more
contents_with_offsets (Last offset kind frame ∷ more) = contents_with_offsets more

-- Under `all_messages_with_offsets`, two captures of fewer than 2^64 bytes have the same lines if and only if their messages have the same
-- contents at the same offsets.
abbrev pub LinesDetermineOffsets : Type 0
LinesDetermineOffsets = (limit : ℕ) (c d : List ℕ) → IsLimit limit → AreBytes c → AreBytes d →
    length c < 2 ^ 64 → length d < 2 ^ 64 →
    (shown all_messages_with_offsets limit c ≡ shown all_messages_with_offsets limit d) ↔
    (contents_with_offsets (messages true limit c) ≡ contents_with_offsets (messages true limit d))
