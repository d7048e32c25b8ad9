use Rattle.std.proofs.Common.{◌≡◌, drop}
use Rattle.link_lines_json.specs.Values.{is_digit}
use Rattle.std.specs.List.{list_all}
use Rattle.link_lines_json.proofs.values.are_digits.Given as goal

abbrev pub invariant-loop-byte : goal.invariant-loop-byte
invariant-loop-byte l = list_all is_digit (drop l.byte-index l.bytes) ≡ list_all is_digit l.bytes
