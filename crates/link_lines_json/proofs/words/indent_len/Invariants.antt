use Rattle.std.proofs.Common.{◌≡◌, ◌+◌, drop}
use Rattle.std.specs.List.{prefix_len}
use Rattle.link_lines_parts.specs.Lines.{is_space}
use Rattle.link_lines_json.proofs.words.indent_len.Given as goal

abbrev pub invariant-loop-i : goal.invariant-loop-i
invariant-loop-i l = l.i + prefix_len is_space (drop l.i l.line) ≡ prefix_len is_space l.line
