use Rattle.std.proofs.Common.{◌≤◌, map, length}
use Rattle.std.specs.Prelude.{string_bytes}
use Rattle.linkshow_program.specs.Arguments.{defaults, settings_of}
use Rattle.linkshow_program.proofs.ArgumentsAsked.{Gone}
use Rattle.linkshow_program.proofs.arguments.read_options.Given as goal

-- What the remaining arguments give, all of them do.
abbrev pub invariant-arguments : goal.invariant-arguments
invariant-arguments l = record {
  low : 16 ≤ l.options.limit;
  gone : Gone (settings_of l.options) (map string_bytes l.left) defaults (map string_bytes l.fn.arguments);
}

abbrev pub decreases-arguments : goal.decreases-arguments
decreases-arguments l = length l.left
