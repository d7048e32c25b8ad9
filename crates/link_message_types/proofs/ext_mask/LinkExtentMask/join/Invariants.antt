use Rattle.std.proofs.Common.{◌≡◌, drop}
use Rattle.std.specs.Int.RustNames.{bit_or}
use Rattle.link_message_types.specs.ExtentMasks.{joined_extent_masks}
use Rattle.link_message_types.proofs.ext_mask.LinkExtentMask.join.Given as goal

abbrev pub invariant-loop-mask : goal.invariant-loop-mask
invariant-loop-mask l = joined_extent_masks l.masks ≡ bit_or l.number (joined_extent_masks (drop l.mask-index l.masks))
