use Rattle.link_message_types.proofs.Numbers.{layer_types_are_named}
use Rattle.link_message_types.proofs.laws.layer_types_are_named.Goals as goal

pub returns : goal.returns
returns c = layer_types_are_named
