use Rattle.std.proofs.Common.{◌≡◌, ◌+◌, drop}
use Rattle.link_lines_json.specs.Tokens.{word_size}
use Rattle.link_lines_json.proofs.tokens.size_by_regions.Given as goal

abbrev pub invariant-loop-i : goal.invariant-loop-i
invariant-loop-i l = l.i + word_size l.region (drop l.i l.text) ≡ word_size l.fn.start l.text
