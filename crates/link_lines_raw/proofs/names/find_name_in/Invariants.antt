use Rattle.std.proofs.Common.{◌≡◌, drop}
use Rattle.link_lines_raw.specs.NameSearch.{named_in}
use Rattle.link_lines_raw.proofs.names.find_name_in.Given as goal

-- The word is sought among the remaining rows.
abbrev pub invariant-loop-row : goal.invariant-loop-row
invariant-loop-row g l = record {
  rest : named_in (λ name. name.now) l.word (drop l.row-index l.rows) ≡ named_in (λ name. name.now) l.word l.rows;
}
