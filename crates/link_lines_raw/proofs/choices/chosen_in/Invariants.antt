use Rattle.std.proofs.Common.{◌≡◌, drop}
use Rattle.link_lines_raw.specs.Choices.{choices_in_code, chosen_in}
use Rattle.link_lines_raw.proofs.choices.chosen_in.Given as goal

-- The payload is sought among the remaining rows.
abbrev pub invariant-loop-row : goal.invariant-loop-row
invariant-loop-row l = record {
  rest : chosen_in l.payload (choices_in_code (λ b. b.now) (drop l.row-index l.rows)) ≡ chosen_in l.payload (choices_in_code (λ b. b.now) l.rows);
}
