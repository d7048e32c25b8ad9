use Rattle.std.proofs.Common.{◌≤◌, ◌+◌, ◌/◌, length}
use Rattle.link_lines_values.specs.Appends.{AppendsAllBut}
use Rattle.link_lines_values.specs.Records.{fields_of, shown_of, slots_text}
use Rattle.link_lines_values.proofs.records.push_slots.Given as goal

abbrev pub invariant-loop-rest : goal.invariant-loop-rest
invariant-loop-rest l = record {
  appends : AppendsAllBut l.initial.out l.out
      (slots_text l.size (shown_of l.shown) (fields_of (λ b. b.now) l.rows) 0 (length l.bytes / l.size) l.bytes)
      (slots_text l.size (shown_of l.shown) (fields_of (λ b. b.now) l.rows) l.index (length l.rest / l.size) l.rest);
  index : l.index + length l.rest ≤ length l.bytes;
}

abbrev pub decreases-loop-rest : goal.decreases-loop-rest
decreases-loop-rest l = length l.rest
