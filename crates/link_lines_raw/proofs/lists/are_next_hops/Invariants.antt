use Rattle.std.proofs.Common.{◌≡◌, length}
use Rattle.link_lines_raw.specs.Attributes.{are_next_hops_after}
use Rattle.link_lines_raw.proofs.lists.are_next_hops.Given as goal

abbrev pub invariant-loop-rest : goal.invariant-loop-rest
invariant-loop-rest l = are_next_hops_after 0 l.rest ≡ are_next_hops_after 0 l.fn.bytes

abbrev pub decreases-loop-rest : goal.decreases-loop-rest
decreases-loop-rest l = length l.rest
