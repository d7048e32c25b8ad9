use Rattle.std.proofs.Common.{◌≡◌, ◌+◌, drop}
use Rattle.std.specs.List.{prefix_len}
use Rattle.link_lines_json.specs.Runs.{is_simple}
use Rattle.link_lines_json.proofs.runs.simple_len_of_few.Given as goal

abbrev pub invariant-loop-i : goal.invariant-loop-i
invariant-loop-i l = l.i + prefix_len is_simple (drop l.i l.text) ≡ prefix_len is_simple l.text
