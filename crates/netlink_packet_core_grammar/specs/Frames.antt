-- Frames: a header of 16 bytes (netlink.h, struct nlmsghdr) and a body, followed by padding up to a multiple of 4.
use Rattle.std.specs.Prelude.{ℕ, ◌+◌, ◌-◌, ◌≤◌, ◌&&◌, nat_le, Bool, List, ◌++◌, length, take, drop}
use Rattle.netlink_packet_core_grammar.specs.Attributes.{nla_align, zeros}
use Rattle.netlink_packet_core_grammar.specs.Numbers.{u16_at, u32_at, le4}

-- The length in the header at the start, which counts the header itself.
abbrev pub frame_length : List ℕ → ℕ
frame_length c = u32_at 0 c

-- The message type in the header at the start.
abbrev pub frame_type : List ℕ → ℕ
frame_type c = u16_at 4 c

-- The body: the bytes after the header, up to the frame's length.
abbrev pub frame_body : List ℕ → List ℕ
frame_body c = take (frame_length c - 16) (drop 16 c)

-- The byte string begins with a whole frame.
pub record BeginsWithFrame (c : List ℕ) : Type 0 where
  pub has_header : 16 ≤ length c
  pub covers_header : 16 ≤ frame_length c
  pub within : frame_length c ≤ length c

-- Whether the byte string begins with a whole frame, as `BeginsWithFrame`.
abbrev pub begins_with_frame : List ℕ → Bool
begins_with_frame c = nat_le 16 (length c) && (nat_le 16 (frame_length c) && nat_le (frame_length c) (length c))

-- The bytes after the first frame and its padding.
abbrev pub after_frame : List ℕ → List ℕ
after_frame c = drop (nla_align (frame_length c)) c

-- The frame with its body replaced, and its padding: the header at the start of c with the length of the new frame, the
-- body, and zeros up to a multiple of 4.
unfoldable pub frame_text : List ℕ → List ℕ → List ℕ
frame_text c body =
    le4 (16 + length body) ++
    (take 12 (drop 4 c) ++ (body ++ zeros (nla_align (16 + length body) - (16 + length body))))
