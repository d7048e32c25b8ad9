-- The values of refusals in code.
use Rattle.std.specs.Prelude.{Option, map, option_map}
use Rattle.link_capture_refusals.specs.Refusals.{Found}
use Rattle.link_capture_refusals.specs.declared.refusal.Refusal.{Refusal}

-- The value of a refusal in code.
abbrev pub found : Refusal → Found
found r = record { path = map (λ n. n.now) r.path.items; offset = r.offset; reason = r.reason }

-- The value of an optional refusal in code.
abbrev pub optional_found : Option Refusal → Option Found
optional_found o = option_map found o
