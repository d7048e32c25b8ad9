use Rattle.std.proofs.Common.{◌≡◌, ◌+◌, drop}
use Rattle.link_lines_json.specs.Values.{is_in_key}
use Rattle.std.specs.List.{prefix_len}
use Rattle.link_lines_json.proofs.values.key_size.Given as goal

abbrev pub invariant-loop-i : goal.invariant-loop-i
invariant-loop-i l = l.i + prefix_len is_in_key (drop l.i l.word) ≡ prefix_len is_in_key l.word
