-- What is left of both captures means the same but for the numbers exactly if the captures do.
use Rattle.std.proofs.Common.{length}
use Rattle.linkcap_c.proofs.Apart.{Apart}
use Rattle.linkcap_c.proofs.numbers.same_but_numbers.Given as goal

abbrev pub invariant-frames : goal.invariant-frames
invariant-frames l = Apart l.limit l.fn.left l.fn.right l.left l.right

abbrev pub decreases-frames : goal.decreases-frames
decreases-frames l = length l.left
