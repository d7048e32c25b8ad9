-- The laws of attributes with their contexts, as the functions of `laws` state them.
use Rattle.std.specs.Prelude.{◌≡◌, ℕ, ◌+◌, ◌≤◌, List, [], ◌∷◌, ◌++◌, length, Some}
use Rattle.netlink_packet_core_grammar.specs.Frames.{BeginsWithFrame, frame_length}
use Rattle.link_capture_walks.specs.Walks.{UnfoldsByAttributes}
use Rattle.link_capture_attributes.specs.Attributes.{Found, attribute_walk, first_from, frame_attributes, list_attributes}

-- The attributes of a list are its first one, those inside it, and those of the rest; none if no attribute is there.
abbrev pub ListsUnfoldByAttributes : Type 0
ListsUnfoldByAttributes = UnfoldsByAttributes attribute_walk list_attributes

-- The headers of attributes are apart: each begins at `low` or after it, ends at `high` or before it, and those after it
-- begin where it ends or later.
abbrev pub AreApart : ℕ → ℕ → List Found → Type 0
AreApart low high [] = Unit {0}
AreApart low high (f ∷ fs) = (low ≤ f.offset) × (f.offset + 4 ≤ high) × AreApart (f.offset + 4) high fs

-- The headers of a frame's attributes are apart, in the order of their bytes, and inside the frame.
abbrev pub AttributesAreApart : Type 0
AttributesAreApart = (offset : ℕ) (c : List ℕ) → BeginsWithFrame c →
    AreApart (offset + 32) (offset + frame_length c) (frame_attributes offset c)

-- The attribute after one is the first from the end of its header on.
abbrev pub NextIsFromPayload : Type 0
NextIsFromPayload = (low high : ℕ) (fs gs : List Found) (f : Found) → AreApart low high (fs ++ f ∷ gs) →
    first_from (f.offset + 4) (fs ++ f ∷ gs) ≡ first_from 0 gs

-- The bytes x are in c at `offset`, where c begins at `start`.
abbrev pub IsAt : ℕ → List ℕ → ℕ → List ℕ → Type 0
IsAt start c offset x = (before : List ℕ) × (rest : List ℕ) × (c ≡ before ++ (x ++ rest)) × (start + length before ≡ offset)

-- Each attribute of a frame that is found from a position on is there or after it, and its payload is in c, 4 bytes
-- after its offset.
abbrev pub AttributesAreWhereTheySay : Type 0
AttributesAreWhereTheySay = (offset position : ℕ) (c : List ℕ) (f : Found) → BeginsWithFrame c →
    first_from position (frame_attributes offset c) ≡ Some f →
    (position ≤ f.offset) × IsAt offset c (f.offset + 4) f.attribute.payload
