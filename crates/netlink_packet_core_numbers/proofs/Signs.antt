-- The bits of a signed number determine it.
use Rattle.std.proofs.lemmas.Int.{of_z-to_z}

pub ruleset signs = (of_z-to_z)
