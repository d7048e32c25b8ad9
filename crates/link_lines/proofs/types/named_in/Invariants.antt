use Rattle.std.proofs.Common.{◌≡◌, drop}
use Rattle.link_lines_values.specs.Names.{texts_of}
use Rattle.link_lines.specs.Types.{named_in}
use Rattle.link_lines.proofs.types.named_in.Given as goal

-- The word is sought among the remaining rows.
abbrev pub invariant-loop-row : goal.invariant-loop-row
invariant-loop-row l = record {
  rest : named_in (texts_of (λ name. name.now) (drop l.row-index l.rows)) l.word ≡ named_in (texts_of (λ name. name.now) l.rows) l.word;
}
