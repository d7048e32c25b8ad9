use Rattle.std.proofs.Common.{drop, flat_map}
use Rattle.link_lines_values.specs.Appends.{AppendsAllBut}
use Rattle.link_lines_json.specs.Strings.{escaped}
use Rattle.link_lines_json.proofs.strings.push_escaped_bytes.Given as goal

abbrev pub invariant-loop-byte : goal.invariant-loop-byte
invariant-loop-byte l = AppendsAllBut l.fn.out l.out (flat_map escaped l.text) (flat_map escaped (drop l.byte-index l.text))
