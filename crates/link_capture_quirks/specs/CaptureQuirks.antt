-- The encoding quirks of a capture with their offsets, in the order of the bytes, up to its first fault.
use Rattle.std.specs.Prelude.{ℕ, ◌+◌, true, cond, List, [], ◌∷◌, ◌++◌, length, drop, slice_index, Ok, Err}
use Rattle.std.specs.Prelude.{Option, Some, None, Result}
use Rattle.netlink_packet_core_grammar.specs.Attributes.{nla_align}
use Rattle.netlink_packet_core_grammar.specs.Frames.{frame_type, frame_body}
use Rattle.link_message_grammar.specs.Body.{link_body}
use Rattle.link_capture_grammar.specs.declared.fault.CaptureFault.{CaptureFault}
use Rattle.link_capture_grammar.specs.Bodies.{is_link_type}
use Rattle.link_capture_grammar.specs.Captures.{Frame, split}
use Rattle.link_capture_quirks.specs.declared.quirk_at.QuirkAt.{QuirkAt}
use Rattle.link_capture_walks.specs.Listings.{whole}
use Rattle.link_capture_quirks.specs.QuirkTables.{Listing, family_table}
use Rattle.link_capture_quirks.specs.QuirkRows.{header_quirk}
use Rattle.link_capture_quirks.specs.QuirkLists.{quirks_at, list_quirks}

-- The list of the attributes of a link's body, inside which peers are judged.
abbrev pub body_list : List ℕ → Listing
body_list b = whole (family_table (slice_index b 0)) true

-- The quirks of a link's body at `offset`, in a message of type t.
unfoldable pub link_quirks : ℕ → ℕ → List ℕ → List QuirkAt
link_quirks offset t b =
    quirks_at (offset + 1) (header_quirk t b) ++ list_quirks (body_list b) (offset + 16) (drop 16 b)

-- The quirks of the first frame of c, which is at `offset`; messages other than links' have none.
unfoldable pub frame_quirks : ℕ → List ℕ → List QuirkAt
frame_quirks offset c = cond (is_link_type (frame_type c)) (link_quirks (offset + 16) (frame_type c) (frame_body c)) []

-- The quirks of frames, of which the first one is at `offset`.
abbrev pub frames_quirks : ℕ → List Frame → List QuirkAt
frames_quirks offset [] = []
frames_quirks offset (f ∷ fs) = frame_quirks offset f.bytes ++ frames_quirks (offset + nla_align (length f.bytes)) fs

-- The quirks of the frames of c before the first fault; c begins at `offset`.
unfoldable pub quirks_from : ℕ → ℕ → List ℕ → List QuirkAt
quirks_from limit offset c = frames_quirks offset (split link_body limit c).frames

-- The quirks of a capture.
abbrev pub capture_quirks : ℕ → List ℕ → List QuirkAt
capture_quirks limit c = quirks_from limit 0 c

-- ---- the items of the iterator

-- Each quirk in turn, and then the fault, if there is one.
abbrev pub quirks_then_fault : List QuirkAt → Option CaptureFault → List (Result QuirkAt CaptureFault)
quirks_then_fault [] None = []
quirks_then_fault [] (Some fault) = Err fault ∷ []
quirks_then_fault (x ∷ xs) fault = Ok x ∷ quirks_then_fault xs fault

-- The items that remain: quirks, and a fault.
pub record QuirksLeft : Type 0 where
  pub quirks_left : List QuirkAt
  pub fault : Option CaptureFault

-- The items that remain, as the iterator yields them.
abbrev pub items_left : QuirksLeft → List (Result QuirkAt CaptureFault)
items_left s = quirks_then_fault s.quirks_left s.fault
