use Rattle.std.specs.Prelude.{refl}
use Rattle.link_info_types.proofs.laws.constants_are_named.Goals as goal

pub returns : goal.returns
returns c = record { flags_of_ipvlan = refl; flags_of_macvlan = refl; flags_of_rmnet = refl; forward_number = refl; forward_text = refl }
