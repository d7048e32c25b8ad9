use Rattle.std.proofs.Common.{◌≡◌, map, bytes_eq, length}
use Rattle.link_interpreter.specs.Sameness.{mark_of}
use Rattle.link_interpreter.proofs.same_shapes.same_marks.Given as goal

abbrev pub invariant-loop-a : goal.invariant-loop-a
invariant-loop-a l = record { rest : bytes_eq (map (mark_of l.byte) l.rest) (map (mark_of l.byte) l.other) ≡ bytes_eq (map (mark_of l.byte) l.left) (map (mark_of l.byte) l.right) }

abbrev pub decreases-loop-a : goal.decreases-loop-a
decreases-loop-a l = length l.rest
