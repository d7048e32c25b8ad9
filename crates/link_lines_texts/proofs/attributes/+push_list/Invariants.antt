use Rattle.std.proofs.Common.{◌≤◌, length}
use Rattle.link_lines_values.specs.Appends.{AppendsAllBut}
use Rattle.link_lines_texts.specs.Lists.{list_lines, rest_lines}
use Rattle.link_tables.specs.InForce.{in_force}
use Rattle.link_lines_texts.proofs.attributes.+push_list.Given as goal

abbrev pub decreases-push_list : goal.decreases-push_list
decreases-push_list l = length l.bytes.now

abbrev pub invariant-loop-attribute : goal.invariant-loop-attribute
invariant-loop-attribute l = record {
  within : length l.rest ≤ length l.fn.bytes;
  appends : AppendsAllBut l.fn.out l.out (list_lines l.fn.level l.fn.list_table l.fn.bytes) (rest_lines l.level l.list_table (in_force l.force) l.rest);
}

abbrev pub decreases-loop-attribute : goal.decreases-loop-attribute
decreases-loop-attribute l = length l.rest
