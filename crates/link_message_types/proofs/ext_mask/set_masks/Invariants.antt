use Rattle.std.proofs.Common.{◌≡◌, ◌++◌, drop}
use Rattle.link_message_types.specs.ExtentMasks.{set_extent_masks}
use Rattle.link_message_types.proofs.ext_mask.set_masks.Given as goal

abbrev pub invariant-loop-mask : goal.invariant-loop-mask
invariant-loop-mask l = set_extent_masks l.listed l.number ≡ l.masks.items ++ set_extent_masks (drop l.mask-index l.listed) l.number
