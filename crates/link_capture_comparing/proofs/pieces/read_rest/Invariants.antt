-- what was read, and not to the end
use Rattle.std.proofs.Common.{◌-◌, ◌^◌, ℕ, List, false}
use Rattle.link_capture_reader.specs.Devices.{IsPrefix}
use Rattle.link_capture_reader.specs.States.{SourceState, source_state}
use Rattle.link_capture_comparing.specs.Readings.{HasRead}
use Rattle.link_capture_comparing.proofs.pieces.read_rest.Given as goal

abbrev pub invariant-pieces : goal.invariant-pieces
invariant-pieces g l =
    (initial : SourceState) (s : List ℕ) → HasRead initial (source_state g.S.Source.to_come g.S.Source.failures g.S.Source.ends_reported l.fn.source) false l.fn.read s →
    (t : List ℕ) × IsPrefix s t × HasRead initial (source_state g.S.Source.to_come g.S.Source.failures g.S.Source.ends_reported l.source) false l.total t

abbrev pub decreases-pieces : goal.decreases-pieces
decreases-pieces g l = 2 ^ 64 - l.total
