use Rattle.std.proofs.Common.{drop, false}
use Rattle.link_lines_values.specs.Appends.{AppendsAllBut}
use Rattle.link_lines_json.specs.Strings.{requoted_after}
use Rattle.link_lines_json.proofs.strings.push_requoted.Given as goal

abbrev pub invariant-loop-byte : goal.invariant-loop-byte
invariant-loop-byte l = AppendsAllBut l.fn.out l.out (requoted_after false l.text) (requoted_after l.escapes (drop l.byte-index l.text))
