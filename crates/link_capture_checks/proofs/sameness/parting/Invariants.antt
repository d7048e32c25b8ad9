-- The rests of both captures mean the same if and only if the captures do, and the first fault is that of the rest.
use Rattle.std.proofs.Common.{length}
use Rattle.link_capture_checks.specs.Partings.{ReducesComparison}
use Rattle.link_capture_checks.proofs.sameness.parting.Given as goal

abbrev pub invariant-loop-other : goal.invariant-loop-other
invariant-loop-other l = ReducesComparison l.limit l.left l.right l.rest l.at

abbrev pub decreases-loop-other : goal.decreases-loop-other
decreases-loop-other l = length l.rest
