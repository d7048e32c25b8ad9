-- Captures with zeros for their sequence numbers and netlink port IDs.
use Rattle.std.specs.Prelude.{ℕ, ◌+◌, ◌&&◌, nat_eq, nat_le, Bool, cond, List, ◌++◌, take, drop, flat_map}
use Rattle.netlink_packet_core_grammar.specs.Attributes.{zeros}
use Rattle.netlink_packet_core_grammar.specs.Frames.{frame_length, frame_type}
use Rattle.link_capture_grammar.specs.WholeFrames.{whole_frames}

-- The bytes with 8 zeros at `offset`.
unfoldable pub zeros_at : ℕ → List ℕ → List ℕ
zeros_at offset c = take offset c ++ (zeros 8 ++ drop (offset + 8) c)

-- The first frame is an ERROR (netlink.h, struct nlmsgerr) that repeats a request's header after its own header and a
-- code.
abbrev pub repeats_request : List ℕ → Bool
repeats_request c = nat_eq (frame_type c) 2 && nat_le 36 (frame_length c)

-- The bytes with zeros for the numbers of the first frame, and for those of the request's header that it repeats.
unfoldable pub first_frame_cleared : List ℕ → List ℕ
first_frame_cleared c = cond (repeats_request c) (zeros_at 28 (zeros_at 8 c)) (zeros_at 8 c)

-- A capture with the numbers of its whole frames cleared.
unfoldable pub numbers_cleared : List ℕ → List ℕ
numbers_cleared c = flat_map first_frame_cleared (whole_frames c).frames ++ (whole_frames c).rest
