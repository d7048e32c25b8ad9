use Rattle.std.proofs.Common.{refl}
use Rattle.link_info.proofs.laws.kinds_are_the_names.Goals as goal

pub returns : goal.returns
returns c = (refl, refl)
