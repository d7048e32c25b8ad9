use Rattle.std.proofs.Common.{◌≡◌, drop}
use Rattle.link_lines_json.specs.Values.{hex_after}
use Rattle.link_lines_json.proofs.values.hex_value.Given as goal

abbrev pub invariant-loop-digit : goal.invariant-loop-digit
invariant-loop-digit l = hex_after l.number (drop l.digit-index (drop 1 (drop 1 l.word))) ≡ hex_after 0 (drop 1 (drop 1 l.word))
