-- it has accepted nothing
use Rattle.std.proofs.Common.{None, List, [], ℕ, sym, subst, vec_capacity}
use Rattle.link_capture_reader.specs.Readers.{IsReader, IsConsistentWith}
use Rattle.link_capture_reader.proofs.Reading.{new_reader, new_is_consistent}
use Rattle.link_capture_reader.proofs.reader.CaptureReader.new.Goals as goal

pub invariant_of-result : goal.invariant_of-result
invariant_of-result c = subst (λ (kept : List ℕ). IsReader (record { limit = c.args.limit; accepted = 0; kept = kept; capacity = vec_capacity c.new.result; owed = 0; failed = None })) (sym c.new.ensures.items) (new_reader c.args.limit (vec_capacity c.new.result) c.requires)

pub returns-clause-empty : goal.returns-clause-empty
returns-clause-empty c = subst (λ (kept : List ℕ). IsConsistentWith (record { limit = c.args.limit; accepted = 0; kept = kept; capacity = vec_capacity c.new.result; owed = 0; failed = None }) []) (sym c.new.ensures.items) (new_is_consistent c.args.limit (vec_capacity c.new.result))
