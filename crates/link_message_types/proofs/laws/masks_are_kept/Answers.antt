use Rattle.link_message_types.proofs.Masks.{masks_joined}
use Rattle.link_message_types.proofs.laws.masks_are_kept.Goals as goal

pub returns : goal.returns
returns c = masks_joined
