use Rattle.std.specs.Prelude.{refl}
use Rattle.link_message_types.proofs.laws.constants_are_named.Goals as goal

pub returns : goal.returns
returns c = record { flags_of_links = refl; flags_of_interfaces = refl; cisco = refl }
