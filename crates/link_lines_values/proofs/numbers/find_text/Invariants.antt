use Rattle.std.proofs.Common.{◌≡◌, drop}
use Rattle.link_lines_values.specs.Names.{text_in, texts_of}
use Rattle.link_lines_values.proofs.numbers.find_text.Given as goal

abbrev pub invariant-loop-row : goal.invariant-loop-row
invariant-loop-row l = record {
  rest : text_in (texts_of (λ b. b.now) (drop l.row-index l.rows)) l.number ≡ text_in (texts_of (λ b. b.now) l.rows) l.number;
}
