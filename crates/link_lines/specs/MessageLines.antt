-- The lines of a capture's messages.
use Rattle.std.specs.Prelude.{◌≡◌, ◌&&◌, ℕ, Bool, true, false, not, cond, List, [], ◌∷◌, ◌++◌, codes, take, drop, flat_map}
use Rattle.std.specs.Prelude.{Option, None, Some}
use Rattle.netlink_packet_core_grammar.specs.Frames.{frame_type}
use Rattle.link_capture_grammar.specs.Faults.{words}
use Rattle.link_capture_grammar.specs.declared.fault.FaultKind.{FaultKind}
use Rattle.link_capture_grammar.specs.declared.fault.FaultKind.TheVariants.{Refused}
use Rattle.link_capture_refusals.specs.ReasonTexts.{words as reason_words}
use Rattle.link_capture_refusals.specs.Refusals.{Found, frame_refusal}
use Rattle.link_capture_refusals.specs.RefusalTexts.{path_text}
use Rattle.link_lines.specs.About.{is_about}
use Rattle.link_lines.specs.Offsets.{with_offset}
use Rattle.link_lines_parts.specs.Remaining.{Omitted, numbers_omitted, remaining_lines}
use Rattle.link_lines_json.specs.Json.{json}
use Rattle.link_lines_texts.specs.Captures.{Choice, is_chosen, text_lines}
use Rattle.link_lines_texts.specs.Frames.{frame_lines}
use Rattle.link_lines_parts.specs.BytesLines.{bytes_line}
use Rattle.link_lines.specs.Messages.{Message, Message.Accepted, Message.Faulty, Message.Last, messages}

-- What is shown of a capture: whether sequence numbers and netlink port IDs, if they aren't among what is left out; the
-- types of messages if not all are; the link that messages have to be about, if one is given; what is left out of lines;
-- whether each message's offset is shown; whether messages with a fault of their body are shown too, and those after
-- them; and whether a message's lines become an object of JSON.
pub record Selection : Type 0 where
  pub numbers : Bool
  pub only : Option (List ℕ)
  pub link : Option (List ℕ)
  pub omitted : Omitted
  pub offsets : Bool
  pub keep_going : Bool
  pub json : Bool

-- How lines are written, before some are left out: whether numbers are shown, and which types.
abbrev pub choice_of : Selection → Choice
choice_of o = record { numbers = not o.omitted.numbers && o.numbers; only = o.only }

-- Whether a message's lines are about a link, if one is given.
abbrev pub is_about_given : Option (List ℕ) → List ℕ → Bool
is_about_given None lines = true
is_about_given (Some link) lines = is_about lines link

-- The lines that remain of a message; none if they aren't about the link.
abbrev pub selected : Selection → List ℕ → List ℕ
selected o lines = cond (is_about_given o.link lines) (remaining_lines o.omitted lines) []

-- No link is given, and nothing but numbers is left out.
pub record SelectsAllLines (o : Selection) : Type 0 where
  pub link : o.link ≡ None
  pub omitted : o.omitted ≡ numbers_omitted o.omitted.numbers

-- The text of a refusal without its offset.
abbrev pub refusal_words : Option Found → List ℕ
refusal_words None = []
refusal_words (Some f) = path_text f.path ++ reason_words f.reason

-- Why a message's body isn't accepted.
abbrev pub body_reason : FaultKind → List ℕ → List ℕ
body_reason Refused frame = refusal_words (frame_refusal 0 frame)
body_reason kind frame = words kind

-- The line with the reason why a message's body isn't accepted.
unfoldable pub refusal_line : FaultKind → List ℕ → List ℕ
refusal_line kind frame = codes "  refused: " ++ (body_reason kind frame ++ 10 ∷ [])

-- The lines of a message with a fault of its body: its header's, the reason, and the body's bytes.
unfoldable pub faulty_lines : Bool → FaultKind → List ℕ → List ℕ
faulty_lines numbers kind frame =
    frame_lines numbers (take 16 frame) ++ (refusal_line kind frame ++ bytes_line (codes "body") (drop 16 frame))

-- Lines with the message's offset, if offsets are shown; none if there are none.
abbrev pub lines_with_offset : Bool → ℕ → List ℕ → List ℕ
lines_with_offset false offset lines = lines
lines_with_offset true offset [] = []
lines_with_offset true offset (b ∷ lines) = with_offset offset (b ∷ lines)

-- Lines, or the object of JSON that they become.
abbrev pub lines_or_json : Bool → List ℕ → List ℕ
lines_or_json false lines = lines
lines_or_json true lines = json lines

-- What is shown of the lines of a message at an offset.
abbrev pub output_lines : Selection → ℕ → List ℕ → List ℕ
output_lines o offset lines = lines_or_json o.json (lines_with_offset o.offsets offset (selected o lines))

-- The lines of a message. One at which showing stops has none.
abbrev pub message_lines : Selection → Message → List ℕ
message_lines o (Accepted offset text) = output_lines o offset (text_lines (choice_of o) text)
message_lines o (Faulty offset kind frame) =
    output_lines o offset
    (cond (is_chosen o.only (frame_type frame)) (faulty_lines (choice_of o).numbers kind frame) [])
message_lines o (Last offset kind frame) = []

-- The lines of messages.
unfoldable pub lines_of_messages : Selection → List Message → List ℕ
lines_of_messages o ms = flat_map (message_lines o) ms

-- The lines of a capture that are shown.
abbrev pub shown : Selection → ℕ → List ℕ → List ℕ
shown o limit c = lines_of_messages o (messages o.keep_going limit c)
