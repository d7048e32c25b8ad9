use Rattle.std.proofs.Common.{◌-◌, ◌/◌, ◌≤◌, length}
use Rattle.link_lines_values.specs.Appends.{AppendsAllBut}
use Rattle.link_lines_values.specs.Exact.{label_after, pieces_text}
use Rattle.link_lines_values.proofs.exact.push_more_labels.Given as goal

abbrev pub invariant-loop : goal.invariant-loop
invariant-loop l = record {
  within : l.counter ≤ length l.fn.bytes / 4;
  appends : AppendsAllBut l.fn.out l.out (pieces_text label_after 4 (length l.fn.bytes / 4) l.fn.bytes) (pieces_text label_after 4 (length l.fn.bytes / 4 - l.counter) l.rest);
}
