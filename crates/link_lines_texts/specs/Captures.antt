-- The lines of a capture: those of its normal text, message by message.
use Rattle.std.specs.Prelude.{ℕ, ◌==◌, ◌||◌, Bool, true, false, cond, List, [], ◌∷◌, take, flat_map, Option, Some, None}
use Rattle.netlink_packet_core_grammar.specs.Frames.{frame_length, frame_type}
use Rattle.link_capture_grammar.specs.Captures.{texts}
use Rattle.link_capture_grammar.specs.WholeFrames.{whole_frames}
use Rattle.link_lines_texts.specs.Frames.{frame_lines}
use Rattle.link_message_grammar.specs.Body.{link_body}

-- A choice of what is shown: whether sequence numbers and netlink port IDs are, and the types of the shown messages if
-- not all are.
pub record Choice : Type 0 where
  pub numbers : Bool
  pub only : Option (List ℕ)

-- The choice that shows everything.
abbrev pub everything : Choice
everything = record { numbers = true; only = None }

-- The choice that shows every message, without sequence numbers and netlink port IDs.
abbrev pub without_numbers : Choice
without_numbers = record { numbers = false; only = None }

-- Whether a message type is among some types.
abbrev pub is_among : List ℕ → ℕ → Bool
is_among [] t = false
is_among (x ∷ types) t = x == t || is_among types t

-- Whether messages of a type are shown.
abbrev pub is_chosen : Option (List ℕ) → ℕ → Bool
is_chosen None t = true
is_chosen (Some types) t = is_among types t

-- The lines that are shown for a frame, given by its bytes without the padding.
abbrev pub shown_lines : Choice → List ℕ → List ℕ
shown_lines o f = cond (is_chosen o.only (frame_type f)) (frame_lines o.numbers f) []

-- The lines of bytes that are read as normal text: those of the whole frames.
unfoldable pub text_lines : Choice → List ℕ → List ℕ
text_lines o t = flat_map (λ f. shown_lines o (take (frame_length f) f)) (whole_frames t).frames

-- The lines of a capture's normal text, or of the texts before its first fault.
abbrev pub lines : Choice → ℕ → List ℕ → List ℕ
lines o limit c = text_lines o (texts link_body limit c)
