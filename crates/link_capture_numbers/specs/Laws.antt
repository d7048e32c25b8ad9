-- The laws of cleared numbers, as the functions of `laws` state them.
use Rattle.std.specs.Prelude.{◌≡◌, ℕ, true, false, List, ◌++◌, take}
use Rattle.netlink_packet_core_grammar.specs.Attributes.{nla_align}
use Rattle.netlink_packet_core_grammar.specs.Frames.{frame_length, begins_with_frame, after_frame}
use Rattle.link_capture_grammar.specs.Captures.{first_fault, texts}
use Rattle.link_capture_numbers.specs.Cleared.{first_frame_cleared, numbers_cleared}
use Rattle.link_message_grammar.specs.Body.{link_body}
use Rattle.link_capture_grammar.specs.Laws.{IsLimit}

-- Numbers are cleared frame by frame.
pub record NumbersAreClearedByFrames : Type 0 where
  pub frame : (c : List ℕ) → begins_with_frame c ≡ true →
      numbers_cleared c ≡ take (nla_align (frame_length c)) (first_frame_cleared c) ++
      numbers_cleared (after_frame c)
  pub none : (c : List ℕ) → begins_with_frame c ≡ false → numbers_cleared c ≡ c

-- A capture whose numbers are cleared has the first fault of the capture, and the cleared texts of the capture.
pub record ClearedCapturesHaveClearedTexts : Type 0 where
  pub fault : (limit : ℕ) (c : List ℕ) → IsLimit limit → first_fault link_body limit (numbers_cleared c) ≡ first_fault link_body limit c
  pub texts_cleared : (limit : ℕ) (c : List ℕ) → IsLimit limit →
      texts link_body limit (numbers_cleared c) ≡ numbers_cleared (texts link_body limit c)
