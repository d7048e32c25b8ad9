-- One message of a capture, and those after it.
use Rattle.std.specs.Prelude.{◌≡◌, ℕ, ◌+◌, ◌<◌, List, ◌++◌, drop, Ok}
use Rattle.netlink_packet_core_grammar.specs.Frames.{frame_type}
use Rattle.link_capture_grammar.specs.Captures.{first_frame, first_fault, texts, shifted}
use Rattle.link_capture_grammar.specs.Numbers.{frame_count}
use Rattle.link_capture_grammar.specs.Body.{link_body}

-- The first frame of these bytes is accepted, and has this length and type.
abbrev pub IsMessage : ℕ → List ℕ → ℕ → ℕ → Type 0
IsMessage limit rest size kind = (text : List ℕ) × (first_frame link_body limit rest ≡ Ok (size, text)) × (kind ≡ frame_type rest)

-- The messages of c from one offset on are one and those from the next offset on: the first fault, the count and the
-- texts of the ones are those of the others.
pub record IsFollowed (limit : ℕ) (c : List ℕ) (at next : ℕ) : Type 0 where
  pub further : at < next
  pub fault : shifted at (first_fault link_body limit (drop at c)) ≡ shifted next (first_fault link_body limit (drop next c))
  pub counted : frame_count link_body limit (drop at c) ≡ 1 + frame_count link_body limit (drop next c)
  pub text : List ℕ
  pub written : texts link_body limit (drop at c) ≡ text ++ texts link_body limit (drop next c)
