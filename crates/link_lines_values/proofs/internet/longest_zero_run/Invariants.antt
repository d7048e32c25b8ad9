use Rattle.std.proofs.Common.{◌≡◌, ◌+◌, ◌≤◌, length, drop}
use Rattle.std.specs.Net.Text.{zero_run, longest_zero_run}
use Rattle.link_lines_values.proofs.internet.longest_zero_run.Given as goal

abbrev pub invariant-loop-i : goal.invariant-loop-i
invariant-loop-i l = record {
  run : l.run ≡ zero_run (drop l.i l.segments);
  longest : l.longest ≡ (longest_zero_run (drop l.i l.segments)).1;
  start : l.start ≡ l.i + (longest_zero_run (drop l.i l.segments)).0;
  run_within : l.i + l.run ≤ length l.segments;
  within : l.start + l.longest ≤ length l.segments;
}
