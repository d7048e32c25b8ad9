-- Captures: the first fault with its offset, and the normal text, under a rule of link bodies.
use Rattle.std.specs.Prelude.{◌≡◌, ℕ, zero, suc, ◌+◌, ◌%◌, ◌<◌, ◌≤◌, List, [], ◌∷◌, length, take, drop, flat_map, ◌⊎◌}
use Rattle.std.specs.Prelude.{Option, None, Some, option_map, Result, Ok, Err, nat_lt, cond}
use Rattle.std.specs.List.{sum_by}
use Rattle.netlink_packet_core_grammar.specs.Attributes.{nla_align}
use Rattle.netlink_packet_core_grammar.specs.Frames.{frame_length, frame_type, frame_body, frame_text}
use Rattle.attribute_tables_grammar.specs.Rules.{Rule}
use Rattle.link_capture_grammar.specs.declared.fault.FaultKind.{FaultKind}
use Rattle.link_capture_grammar.specs.declared.fault.FaultKind.TheVariants.{Cut, ShortLength, OverLimit}
use Rattle.link_capture_grammar.specs.declared.fault.FaultKind.TheVariants.{TextOverLimit, Memory}
use Rattle.link_capture_grammar.specs.declared.fault.FaultKind.TheVariants.{Read, Write, TooLong, Failed}
use Rattle.link_capture_grammar.specs.declared.fault.CaptureFault.{CaptureFault}
use Rattle.link_capture_grammar.specs.Bodies.{body_text}

-- The result for a frame: its length and its text, or its fault.
abbrev pub Judged : Type 0
Judged = Result (ℕ × List ℕ) FaultKind

-- The result for a frame with an intact header, from the result for its body: the text must be within the limit.
abbrev pub judged_text : ℕ → List ℕ → Result (List ℕ) FaultKind → Judged
judged_text limit c (Err kind) = Err kind
judged_text limit c (Ok body) =
    cond (nat_lt limit (16 + length body)) (Err TextOverLimit) (Ok (frame_length c, frame_text c body))

-- The result for a frame of which `size` bytes are there and whose header has the length length'. The tests are made in
-- this order.
abbrev pub checked_header : ℕ → ℕ → ℕ → Judged → Judged
checked_header limit size length' judged =
    cond (nat_lt size 16) (Err Cut)
    (cond (nat_lt length' 16) (Err ShortLength)
    (cond (nat_lt limit length') (Err OverLimit)
    (cond (nat_lt size length') (Err Cut) judged)))

-- The result for the first frame: its length and its text, or its fault.
unfoldable pub first_frame : Rule → ℕ → List ℕ → Judged
first_frame r limit c =
    checked_header limit (length c) (frame_length c)
    (judged_text limit c (body_text r (frame_type c) (frame_body c)))

-- c begins with a whole frame of n bytes: n is the length in its header, and from 16 to the limit.
pub record IsFrameOfLength (limit : ℕ) (c : List ℕ) (n : ℕ) : Type 0 where
  pub header : 16 ≤ length c
  pub low : 16 ≤ n
  pub high : n ≤ limit
  pub whole : n ≤ length c
  pub is : frame_length c ≡ n

-- A frame that is cut after its header: the length in the header is within the limit, but more than the bytes.
pub record CutInBody (limit : ℕ) (c : List ℕ) : Type 0 where
  pub header : 16 ≤ length c
  pub low : 16 ≤ frame_length c
  pub high : frame_length c ≤ limit
  pub short : length c < frame_length c

-- ---- a capture, frame by frame

-- An accepted frame: its bytes, without the padding, and its text.
pub record Frame : Type 0 where
  pub bytes : List ℕ
  pub text : List ℕ

-- A capture as frames: the accepted ones before the first fault, and the kind of that fault, if there is one.
pub record Split : Type 0 where
  pub frames : List Frame
  pub fault : Option FaultKind

-- Bytes as frames, from the result for the first frame; `rest` splits the bytes after it and its padding.
abbrev pub next_split : Judged → List ℕ → (List ℕ → Split) → Split
next_split (Ok frame) c rest = record {
  frames = record { bytes = take frame.0 c; text = frame.1 } ∷ (rest (drop (nla_align frame.0) c)).frames;
  fault = (rest (drop (nla_align frame.0) c)).fault;
}
next_split (Err kind) c rest = record { frames = []; fault = Some kind }

-- As `split`, but after n frames the rest is ignored.
unfoldable pub split_within : Rule → ℕ → ℕ → List ℕ → Split
split_within r limit n [] = record { frames = []; fault = None }
split_within r limit zero (b ∷ c) = record { frames = []; fault = None }
split_within r limit (suc n) (b ∷ c) = next_split (first_frame r limit (b ∷ c)) (b ∷ c) (split_within r limit n)

-- A capture as frames. Each takes at least 16 bytes, so there are no more frames than bytes.
abbrev pub split : Rule → ℕ → List ℕ → Split
split r limit c = split_within r limit (length c) c

-- The size of frames with their padding.
abbrev pub padded_size : List Frame → ℕ
padded_size frames = sum_by (λ f. nla_align (length f.bytes)) frames

-- The first fault of a capture with its offset: it is after the accepted frames.
abbrev pub first_fault : Rule → ℕ → List ℕ → Option CaptureFault
first_fault r limit c =
    option_map (λ kind. record { kind = kind; offset = padded_size (split r limit c).frames }) (split r limit c).fault

-- The texts of the frames of a capture before its first fault.
abbrev pub texts : Rule → ℕ → List ℕ → List ℕ
texts r limit c = flat_map (λ f. f.text) (split r limit c).frames

-- A fault with its offset increased by k.
abbrev pub shifted : ℕ → Option CaptureFault → Option CaptureFault
shifted k None = None
shifted k (Some fault) = Some (record { kind = fault.kind; offset = k + fault.offset })

-- The offset that the accepted frames before the first fault reach, including the full padding of the last one, from the
-- size of the capture and that fault: the fault's offset, or the next multiple of 4.
abbrev pub reach_by : ℕ → Option CaptureFault → ℕ
reach_by size None = nla_align size
reach_by size (Some fault) = fault.offset

-- The offset that the accepted frames before the first fault reach, including the full padding of the last one.
abbrev pub reach : Rule → ℕ → List ℕ → ℕ
reach r limit c = reach_by (length c) (first_fault r limit c)

-- A capture without a fault is legal; its texts are its normal text.
abbrev pub IsLegal : Rule → ℕ → List ℕ → Type 0
IsLegal r limit c = first_fault r limit c ≡ None

-- The first header isn't refused: fewer than 16 bytes are there, or its length is from 16 to the limit.
abbrev pub HeaderIsAllowed : ℕ → List ℕ → Type 0
HeaderIsAllowed limit c = (length c < 16) ⊎ ((16 ≤ frame_length c) × (frame_length c ≤ limit))

-- At offset `offset` of c a frame begins whose header isn't refused, and the bytes before it are legal.
pub record ReachesFrameAt (r : Rule) (limit : ℕ) (c : List ℕ) (offset : ℕ) : Type 0 where
  pub inside : offset < length c
  pub start : offset % 4 ≡ 0
  pub header : HeaderIsAllowed limit (drop offset c)
  pub legal : IsLegal r limit (take offset c)

-- The kinds of fault that a frame itself can have.
abbrev pub IsOfFrames : FaultKind → Type 0
IsOfFrames Memory = ⊥
IsOfFrames Read = ⊥
IsOfFrames Write = ⊥
IsOfFrames TooLong = ⊥
IsOfFrames Failed = ⊥
IsOfFrames kind = Unit {0}
