use Rattle.std.proofs.Common.{◌≡◌, length}
use Rattle.link_lines_texts.specs.Captures.{is_among}
use Rattle.link_lines.proofs.options.is_among.Given as goal

-- The type is among the remaining ones if and only if it is among all.
abbrev pub invariant-types : goal.invariant-types
invariant-types l = is_among l.left l.message_type ≡ is_among l.fn.types l.message_type

abbrev pub decreases-types : goal.decreases-types
decreases-types l = length l.left
