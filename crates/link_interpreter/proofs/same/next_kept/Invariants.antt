use Rattle.std.proofs.Common.{◌≡◌, ◌≤◌, length}
use Rattle.attribute_tables_grammar.specs.Sameness.{kept_of}
use Rattle.link_tables.specs.Rows.{form_of}
use Rattle.link_interpreter.proofs.same.next_kept.Given as goal

abbrev pub invariant-loop-rest : goal.invariant-loop-rest
invariant-loop-rest l = record {
  kept : kept_of (form_of l.form) l.rest ≡ kept_of (form_of l.form) l.bytes;
  within : length l.rest ≤ length l.bytes;
}

abbrev pub decreases-loop-rest : goal.decreases-loop-rest
decreases-loop-rest l = length l.rest
