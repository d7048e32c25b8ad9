use Rattle.std.proofs.Common.{flat_map, drop}
use Rattle.link_lines_values.specs.Appends.{AppendsAllBut}
use Rattle.link_lines_values.specs.Bytes.{colon_byte}
use Rattle.link_lines_values.proofs.bytes.push_colon_bytes.Given as goal

abbrev pub invariant-loop-byte : goal.invariant-loop-byte
invariant-loop-byte l = AppendsAllBut l.initial.out l.out (flat_map colon_byte l.bytes) (flat_map colon_byte (drop l.byte-index l.bytes))
