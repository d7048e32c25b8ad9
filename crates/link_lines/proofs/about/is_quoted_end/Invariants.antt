use Rattle.std.proofs.Common.{◌≡◌, bytes_eq, drop}
use Rattle.link_lines.specs.About.{quoted_end}
use Rattle.link_lines.proofs.about.is_quoted_end.Given as goal

abbrev pub invariant-loop-byte : goal.invariant-loop-byte
invariant-loop-byte l = bytes_eq l.rest (quoted_end (drop l.byte-index l.word)) ≡ bytes_eq l.fn.text (quoted_end l.word)
