use Rattle.std.proofs.Common.{◌≡◌, drop}
use Rattle.link_lines_raw.specs.Bodies.{first_fitting}
use Rattle.link_lines_raw.proofs.bodies.first_fitting.Given as goal

abbrev pub invariant-loop-row : goal.invariant-loop-row
invariant-loop-row l = record {
  rest : first_fitting (drop l.row-index l.rows) l.message_type l.is_request l.body ≡ first_fitting l.rows l.message_type l.is_request l.body;
}
