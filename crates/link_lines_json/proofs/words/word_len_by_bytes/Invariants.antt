use Rattle.std.proofs.Common.{◌≡◌, ◌+◌, drop}
use Rattle.std.specs.List.{prefix_len}
use Rattle.link_lines_parts.specs.Lines.{is_in_word}
use Rattle.link_lines_json.proofs.words.word_len_by_bytes.Given as goal

abbrev pub invariant-loop-i : goal.invariant-loop-i
invariant-loop-i l = l.i + prefix_len is_in_word (drop l.i l.text) ≡ prefix_len is_in_word l.text
