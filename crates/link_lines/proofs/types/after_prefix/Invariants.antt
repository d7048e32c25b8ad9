use Rattle.std.proofs.Common.{◌≡◌, length}
use Rattle.std.specs.List.{after_first}
use Rattle.link_lines.specs.Types.{is_underscore}
use Rattle.link_lines.proofs.types.after_prefix.Given as goal

-- The rest of the name has no `_` before it.
abbrev pub invariant-loop-byte : goal.invariant-loop-byte
invariant-loop-byte l = record {
  rest : after_first is_underscore l.left ≡ after_first is_underscore l.name;
}

abbrev pub decreases-loop-byte : goal.decreases-loop-byte
decreases-loop-byte l = length l.left
