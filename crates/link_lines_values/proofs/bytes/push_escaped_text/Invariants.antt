use Rattle.std.proofs.Common.{flat_map, drop}
use Rattle.link_lines_values.specs.Appends.{AppendsAllBut}
use Rattle.link_lines_values.specs.Bytes.{escaped}
use Rattle.link_lines_values.proofs.bytes.push_escaped_text.Given as goal

abbrev pub invariant-loop-byte : goal.invariant-loop-byte
invariant-loop-byte l = AppendsAllBut l.initial.out l.out (flat_map escaped l.bytes) (flat_map escaped (drop l.byte-index l.bytes))
