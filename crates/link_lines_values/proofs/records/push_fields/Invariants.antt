use Rattle.std.proofs.Common.{◌≡◌, length, drop}
use Rattle.link_lines_values.specs.Appends.{AppendsAllBut}
use Rattle.link_lines_values.specs.Records.{fields_of, total_size, fields_text}
use Rattle.link_lines_values.proofs.records.push_fields.Given as goal

abbrev pub invariant-loop-row : goal.invariant-loop-row
invariant-loop-row l = record {
  appends : AppendsAllBut l.initial.out l.out (fields_text l.separator l.is_sparse (fields_of (λ b. b.now) l.rows) l.bytes)
      (fields_text l.separator l.is_sparse (fields_of (λ b. b.now) (drop l.row-index l.rows)) l.rest);
  size : length l.rest ≡ total_size (fields_of (λ b. b.now) (drop l.row-index l.rows));
}
