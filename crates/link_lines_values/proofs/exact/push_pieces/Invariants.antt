use Rattle.std.proofs.Common.{◌-◌, ◌≤◌, []}
use Rattle.link_lines_values.specs.Appends.{AppendsAllBut}
use Rattle.link_lines_values.specs.Exact.{pieces_text}
use Rattle.link_lines_values.specs.Values.{number_value}
use Rattle.link_lines_values.proofs.exact.push_pieces.Given as goal

abbrev pub invariant-loop : goal.invariant-loop
invariant-loop l = record {
  within : l.counter ≤ l.fn.count;
  appends : AppendsAllBut l.fn.out l.out (pieces_text (number_value []) l.fn.size l.fn.count l.fn.bytes) (pieces_text (number_value []) l.fn.size (l.fn.count - l.counter) l.rest);
}
