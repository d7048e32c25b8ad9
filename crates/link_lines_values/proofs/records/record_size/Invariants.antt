use Rattle.std.proofs.Common.{◌≡◌, ◌+◌, ◌≤◌, drop}
use Rattle.std.specs.Prelude.{min}
use Rattle.link_lines_values.specs.Records.{fields_of, total_size}
use Rattle.link_lines_values.proofs.records.record_size.Given as goal

abbrev pub invariant-loop-row : goal.invariant-loop-row
invariant-loop-row l = record {
  sum : min 18446744073709551615 (l.size + total_size (fields_of (λ b. b.now) (drop l.row-index l.rows))) ≡ min 18446744073709551615 (total_size (fields_of (λ b. b.now) l.rows));
  small : l.size ≤ 18446744073709551615;
}
