-- The meaning of the measures that functions of this crate return.
use Rattle.std.specs.Prelude.{◌≡◌, ℕ, ◌+◌, ◌≤◌, ◌<◌, true, List, [], length, Result, Ok, Err, Vec, vec_capacity}
use Rattle.netlink_packet_core_grammar.specs.Attributes.{nla_align}
use Rattle.netlink_packet_core_grammar.specs.Frames.{BeginsWithFrame, frame_type, frame_body, frame_text}
use Rattle.link_message_grammar.specs.Body.{link_peer, link_body}
use Rattle.link_message_checks.specs.Prefixes.{IsBodyPrefix}
use Rattle.link_capture_grammar.specs.Bodies.{body_text}
use Rattle.link_capture_grammar.specs.Captures.{first_frame, texts}
use Rattle.link_capture_grammar.specs.Numbers.{attribute_count, frame_attribute_count, frame_count}
use Rattle.link_capture_checks.specs.declared.texts.MeasuredBody.{MeasuredBody}
use Rattle.link_capture_checks.specs.declared.texts.Measure.{Measure}
use Rattle.link_capture_checks.specs.declared.texts.MeasuredFrame.{MeasuredFrame}
use Rattle.link_capture_grammar.specs.declared.fault.FaultKind.{FaultKind}

-- The measure m is that of a body which has a text: the text's length, and the number of attributes inside.
pub record IsMeasuredBody (body : List ℕ) (judged : Result (List ℕ) FaultKind) (inside : ℕ) (m : MeasuredBody) : Type 0 where
  pub text : List ℕ
  pub is : judged ≡ Ok text
  pub len : m.len ≡ length text
  pub attributes : m.attributes ≡ inside
  pub canonical : m.is_canonical ≡ true → text ≡ body

-- The measure m is that of the first frame of c, which is accepted.
pub record IsMeasuredFrame (limit : ℕ) (c : List ℕ) (m : MeasuredFrame) : Type 0 where
  pub whole : BeginsWithFrame c
  pub body : List ℕ
  pub judged : body_text link_body (frame_type c) (frame_body c) ≡ Ok body
  pub text : List ℕ
  pub written : text ≡ frame_text c body
  pub is : first_frame link_body limit c ≡ Ok (m.len, text)
  pub bound : m.len ≤ limit
  pub size : m.size ≡ 16 + length body
  pub small : m.size ≤ limit
  pub text_len : m.text_len ≡ length text
  pub aligned : m.text_len ≡ nla_align m.size
  pub attributes : m.attributes ≡ frame_attribute_count link_body c
  pub canonical : m.is_canonical ≡ true → body ≡ frame_body c
  pub canonical_prefix : IsBodyPrefix link_peer (frame_body c) m.canonical_prefix

-- The text of a body, or nothing.
abbrev pub text_or_empty : Result (List ℕ) FaultKind → List ℕ
text_or_empty (Ok text) = text
text_or_empty (Err why) = []

-- The first frame is accepted, and the vector had less capacity than what it held and the frame's text need together.
abbrev pub LacksCapacity : {Z : Type 0} → ℕ → List ℕ → Vec ℕ Z → Type 0
LacksCapacity limit c out = (n : ℕ) × (text : List ℕ) × (first_frame link_body limit c ≡ Ok (n, text)) ×
    (vec_capacity out < length out.items + length text)

-- The measure m is that of a capture up to its first fault.
pub record IsMeasure (limit : ℕ) (c : List ℕ) (m : Measure) : Type 0 where
  pub frames : m.frames ≡ frame_count link_body limit c
  pub attributes : m.attributes ≡ attribute_count link_body limit c
  pub text_len : m.text_len ≡ length (texts link_body limit c)
