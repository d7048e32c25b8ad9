-- The messages of a capture in pieces.
use Rattle.std.specs.Prelude.{◌≡◌, ◌&&◌, ℕ, ◌+◌, ◌%◌, ◌<◌, ◌≤◌, Bool, true, false, List, [], ◌∷◌, ◌++◌, length, take, None, Ok, Err}
use Rattle.netlink_packet_core_grammar.specs.Attributes.{nla_align}
use Rattle.netlink_packet_core_grammar.specs.Frames.{BeginsWithFrame, frame_length}
use Rattle.link_capture_grammar.specs.Captures.{first_frame}
use Rattle.link_capture_grammar.specs.declared.fault.FaultKind.{FaultKind}
use Rattle.link_lines.specs.declared.messages.ShownMessage.{ShownMessage}
use Rattle.link_lines.specs.declared.messages.ShownMessage.TheVariants as Outcome
use Rattle.link_lines.specs.MessageLines.{Selection, message_lines, lines_of_messages}
use Rattle.link_lines.specs.Messages.{Message.Accepted, Message.Faulty, Message.Last, frame_of, is_of_body, last_fault}
use Rattle.link_lines.specs.Messages.{messages_at}
use Rattle.link_lines.specs.Walks.{StopsThere}
use Rattle.link_message_grammar.specs.Body.{link_body}

-- The bytes of the first message and of its padding, as far as they are there.
abbrev pub first_message : List ℕ → List ℕ
first_message c = take (nla_align (frame_length c)) c

-- The lines of bytes at an offset of a capture that are shown.
abbrev pub shown_at : Selection → ℕ → ℕ → List ℕ → List ℕ
shown_at o limit offset c = lines_of_messages o (messages_at o.keep_going limit offset c)

-- Showing doesn't stop in bytes at an offset of a capture.
abbrev pub GoesOn : Bool → ℕ → ℕ → List ℕ → Type 0
GoesOn keep_going limit offset c = last_fault (messages_at keep_going limit offset c) ≡ None

-- Whether messages after one with this fault are shown.
abbrev pub goes_past : Bool → FaultKind → Bool
goes_past keep_going kind = is_of_body kind && keep_going

-- The result for the first message of c, which is at an offset of a capture: it has this length, is accepted or has this
-- fault of its body, and the lines grew by its lines; or showing stops there.
abbrev pub IsShownAs : Selection → ℕ → ℕ → List ℕ → List ℕ → List ℕ → ShownMessage → Type 0
IsShownAs o limit offset c old new (Outcome.Accepted n) =
    (text : List ℕ) × (first_frame link_body limit c ≡ Ok (n, text)) × (new ≡ old ++ message_lines o (Accepted offset text))
IsShownAs o limit offset c old new (Outcome.Faulty kind n) =
    (o.keep_going ≡ true) × (first_frame link_body limit c ≡ Err kind) × (is_of_body kind ≡ true) × BeginsWithFrame c ×
    (n ≡ frame_length c) × (new ≡ old ++ message_lines o (Faulty offset kind (frame_of c)))
IsShownAs o limit offset c old new (Outcome.Stopped kind) =
    StopsThere o.keep_going limit c kind × (new ≡ old)

-- The messages of a capture in pieces are those of the whole.
pub record PiecesAreJoined : Type 0 where
  -- bytes in which showing doesn't stop, whose size is a multiple of 4, are shown independently of those after them
  pub messages : (k : Bool) (limit offset : ℕ) (a b : List ℕ) → GoesOn k limit offset a → length a % 4 ≡ 0 →
      messages_at k limit offset (a ++ b) ≡
      messages_at k limit offset a ++ messages_at k limit (offset + length a) b
  pub lines : (o : Selection) (limit offset : ℕ) (a b : List ℕ) → GoesOn o.keep_going limit offset a →
      length a % 4 ≡ 0 →
      shown_at o limit offset (a ++ b) ≡ shown_at o limit offset a ++ shown_at o limit (offset + length a) b
  pub last : (k : Bool) (limit offset : ℕ) (a b : List ℕ) → GoesOn k limit offset a → length a % 4 ≡ 0 →
      last_fault (messages_at k limit offset (a ++ b)) ≡ last_fault (messages_at k limit (offset + length a) b)
  -- the first message is shown independently of those after it
  pub accepted : (k : Bool) (limit offset : ℕ) (c : List ℕ) (frame : ℕ × List ℕ) → first_frame link_body limit c ≡ Ok frame →
      messages_at k limit offset (first_message c) ≡ Accepted offset frame.1 ∷ []
  pub faulty : (k : Bool) (limit offset : ℕ) (c : List ℕ) (kind : FaultKind) → first_frame link_body limit c ≡ Err kind →
      goes_past k kind ≡ true →
      messages_at k limit offset (first_message c) ≡ Faulty offset kind (frame_of c) ∷ []
  -- it has at least a header, also if its body has a fault
  pub header : (limit : ℕ) (c : List ℕ) (kind : FaultKind) → first_frame link_body limit c ≡ Err kind →
      is_of_body kind ≡ true → 16 ≤ length (first_message c)
  -- nothing is shown from a message on at which showing stops
  pub stopped : (k : Bool) (limit offset : ℕ) (c : List ℕ) (kind : FaultKind) → 0 < length c →
      first_frame link_body limit c ≡ Err kind → goes_past k kind ≡ false →
      (frame : List ℕ) × (messages_at k limit offset c ≡ Last offset kind frame ∷ [])
