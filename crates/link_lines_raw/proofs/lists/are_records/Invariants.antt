use Rattle.std.proofs.Common.{◌≡◌, length}
use Rattle.link_lines_values.specs.Records.{fields_of}
use Rattle.link_lines_raw.specs.Attributes.{are_records_after}
use Rattle.link_lines_raw.proofs.lists.are_records.Given as goal

abbrev pub invariant-loop-rest : goal.invariant-loop-rest
invariant-loop-rest l = are_records_after (fields_of (λ b. b.now) l.fields) 0 l.rest ≡ are_records_after (fields_of (λ b. b.now) l.fn.fields) 0 l.fn.bytes

abbrev pub decreases-loop-rest : goal.decreases-loop-rest
decreases-loop-rest l = length l.rest
