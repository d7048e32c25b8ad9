-- The parts of a link that a request asks for: masks, their numbers, and lists of them.
use Rattle.std.specs.Prelude.{ℕ, List, [], ◌∷◌, ◌++◌, ◌==◌, if◌then◌else◌}
use Rattle.std.specs.Int.RustNames.{bit_and, bit_or}
use Rattle.netlink_packet_core.specs.Named.{numbered_by}
use Rattle.link_message_types.specs.declared.ext_mask.LinkExtentMask.{LinkExtentMask}

-- The number of a mask.
abbrev pub link_extent_mask_number : LinkExtentMask → ℕ
link_extent_mask_number LinkExtentMask.Vf = 1
link_extent_mask_number LinkExtentMask.Brvlan = 2
link_extent_mask_number LinkExtentMask.BrvlanCompressed = 4
link_extent_mask_number LinkExtentMask.SkipStats = 8
link_extent_mask_number LinkExtentMask.Mrp = 16
link_extent_mask_number LinkExtentMask.CfmConfig = 32
link_extent_mask_number LinkExtentMask.CfmStatus = 64
link_extent_mask_number LinkExtentMask.Mst = 128
link_extent_mask_number (LinkExtentMask.Other n) = n

-- The masks with a variant of their own, in the order of their bits.
abbrev pub listed_link_extent_masks : List LinkExtentMask
listed_link_extent_masks =
    LinkExtentMask.Vf ∷
    LinkExtentMask.Brvlan ∷
    LinkExtentMask.BrvlanCompressed ∷
    LinkExtentMask.SkipStats ∷
    LinkExtentMask.Mrp ∷
    LinkExtentMask.CfmConfig ∷
    LinkExtentMask.CfmStatus ∷
    LinkExtentMask.Mst ∷
    []

-- The mask of a number.
abbrev pub link_extent_mask_of : ℕ → LinkExtentMask
link_extent_mask_of n = numbered_by link_extent_mask_number listed_link_extent_masks LinkExtentMask.Other n

-- The masks whose bit is set in a number.
abbrev pub set_extent_masks : List LinkExtentMask → ℕ → List LinkExtentMask
set_extent_masks [] n = []
set_extent_masks (v ∷ vs) n =
    if bit_and n (link_extent_mask_number v) == 0 then set_extent_masks vs n else v ∷ set_extent_masks vs n

-- The other bits of a number as one mask; no mask if there are none.
abbrev pub other_extent_mask : ℕ → List LinkExtentMask
other_extent_mask bits = if bits == 0 then [] else LinkExtentMask.Other bits ∷ []

-- The list of masks of a number.
abbrev pub link_extent_masks_of : ℕ → List LinkExtentMask
link_extent_masks_of n =
    set_extent_masks listed_link_extent_masks n ++ other_extent_mask (bit_and n 0xffffff00)

-- The number of a list of masks.
abbrev pub joined_extent_masks : List LinkExtentMask → ℕ
joined_extent_masks [] = 0
joined_extent_masks (v ∷ vs) = bit_or (link_extent_mask_number v) (joined_extent_masks vs)
