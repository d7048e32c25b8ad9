use Rattle.std.proofs.Common.{◌-◌, ◌≤◌}
use Rattle.link_lines_values.specs.Appends.{AppendsAllBut}
use Rattle.link_lines_values.specs.Indents.{indent}
use Rattle.link_lines_values.proofs.indents.push_indent.Given as goal

abbrev pub invariant-loop : goal.invariant-loop
invariant-loop l = record {
  within : l.counter ≤ l.fn.level;
  appends : AppendsAllBut l.fn.out l.out (indent l.fn.level) (indent (l.fn.level - l.counter));
}
