use Rattle.link_message_types.proofs.Numbers.{numbers_are_kept}
use Rattle.link_message_types.proofs.laws.numbers_are_kept.Goals as goal

pub returns : goal.returns
returns c = numbers_are_kept
