-- Bytes as whole frames by the lengths in their headers alone: the frames may be refused, and the bytes no legal capture.
use Rattle.std.specs.Prelude.{ℕ, zero, suc, Bool, true, false, List, [], ◌∷◌, length, take}
use Rattle.netlink_packet_core_grammar.specs.Attributes.{nla_align}
use Rattle.netlink_packet_core_grammar.specs.Frames.{frame_length, begins_with_frame, after_frame}

-- Whole frames, each with its padding, of which the last one's may be missing; and the bytes after them, with which no
-- whole frame begins.
pub record WholeFrames : Type 0 where
  pub frames : List (List ℕ)
  pub rest : List ℕ

-- The whole frames of c, which begins with one or not; `after` has those of the bytes after the first one.
abbrev pub next_whole : Bool → List ℕ → (List ℕ → WholeFrames) → WholeFrames
next_whole true c after = record {
  frames = take (nla_align (frame_length c)) c ∷ (after (after_frame c)).frames;
  rest = (after (after_frame c)).rest;
}
next_whole false c after = record { frames = []; rest = c }

-- As `whole_frames`, but after n frames the others are `rest`.
unfoldable pub whole_within : ℕ → List ℕ → WholeFrames
whole_within n [] = record { frames = []; rest = [] }
whole_within zero (b ∷ c) = record { frames = []; rest = b ∷ c }
whole_within (suc n) (b ∷ c) = next_whole (begins_with_frame (b ∷ c)) (b ∷ c) (whole_within n)

-- The whole frames of bytes. Each takes at least 16 bytes, so there are no more frames than bytes.
abbrev pub whole_frames : List ℕ → WholeFrames
whole_frames c = whole_within (length c) c
