use Rattle.std.proofs.Common.{◌≡◌, length}
use Rattle.link_lines_raw.specs.Choices.{payload_after}
use Rattle.link_lines_raw.proofs.choices.payload_of.Given as goal

abbrev pub invariant-loop-attribute : goal.invariant-loop-attribute
invariant-loop-attribute l = payload_after l.kind 0 l.rest ≡ payload_after l.kind 0 l.fn.list

abbrev pub decreases-loop-attribute : goal.decreases-loop-attribute
decreases-loop-attribute l = length l.rest
