-- How many frames a capture has, and how many attributes its link messages have, under a rule of link bodies.
use Rattle.std.specs.Prelude.{ℕ, List, length, cond}
use Rattle.std.specs.List.{sum_by}
use Rattle.netlink_packet_core_grammar.specs.Frames.{frame_type, frame_body}
use Rattle.attribute_tables_grammar.specs.Rules.{Rule}
use Rattle.link_capture_grammar.specs.Bodies.{is_link_type}
use Rattle.link_capture_grammar.specs.Captures.{split}

-- The number of attribute headers in a body of type t, at all depths; only bodies of links have any.
abbrev pub body_attribute_count : Rule → ℕ → List ℕ → ℕ
body_attribute_count r t b = cond (is_link_type t) (r.attributes b) 0

-- The number of attribute headers in the first frame of c.
abbrev pub frame_attribute_count : Rule → List ℕ → ℕ
frame_attribute_count r c = body_attribute_count r (frame_type c) (frame_body c)

-- The number of frames before the first fault.
abbrev pub frame_count : Rule → ℕ → List ℕ → ℕ
frame_count r limit c = length (split r limit c).frames

-- The number of attributes in the frames before the first fault.
abbrev pub attribute_count : Rule → ℕ → List ℕ → ℕ
attribute_count r limit c = sum_by (λ f. frame_attribute_count r f.bytes) (split r limit c).frames
