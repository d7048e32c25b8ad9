use Rattle.std.proofs.Common.{◌≡◌, ◌+◌, length, drop}
use Rattle.link_lines_values.specs.Records.{fields_of, total_size}
use Rattle.link_lines_values.proofs.records.after_fields.Given as goal

abbrev pub invariant-loop-row : goal.invariant-loop-row
invariant-loop-row l = record {
  rest : drop (total_size (fields_of (λ b. b.now) (drop l.row-index l.rows))) l.rest ≡ drop (total_size (fields_of (λ b. b.now) l.rows)) l.bytes;
  size : length l.rest + total_size (fields_of (λ b. b.now) l.rows) ≡ length l.bytes + total_size (fields_of (λ b. b.now) (drop l.row-index l.rows));
}
