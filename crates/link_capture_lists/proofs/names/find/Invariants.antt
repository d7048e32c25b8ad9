use Rattle.std.proofs.Common.{◌≡◌, drop}
use Rattle.link_capture_lists.specs.ListTables.{find, row_values}
use Rattle.link_capture_lists.proofs.names.find.Given as goal

abbrev pub invariant-loop-row : goal.invariant-loop-row
invariant-loop-row l = record { rest : find l.kind (row_values (λ n. n.now) (drop l.row-index l.rows)) ≡ find l.kind (row_values (λ n. n.now) l.rows) }
