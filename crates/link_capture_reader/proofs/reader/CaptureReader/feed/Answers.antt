-- after a fault nothing is kept
use Rattle.std.proofs.Common.{Some, List, ℕ, sym, subst, arith, vec_capacity}
use Rattle.link_capture_reader.specs.Readers.{IsReader}
use Rattle.link_capture_reader.proofs.Reading.{failed_reader}
use Rattle.link_capture_reader.proofs.reader.CaptureReader.feed.Goals as goal

pub invariant_of-self : goal.invariant_of-self
invariant_of-self c =
    let limit = c.accept.new.self.limit in
    let accepted = c.accept.new.self.accepted in
    let capacity = vec_capacity c.clear.new.self in
    let offset = c.in-Err.fault.offset in
    subst (λ (kept : List ℕ). IsReader (record { limit = limit; accepted = accepted; kept = kept; capacity = capacity; owed = 0; failed = Some offset }))
    (sym c.clear.ensures.items) (failed_reader limit accepted capacity offset (omega (arith, c.accept.ensures.limit, c.self.invariant.limit)))

pub returns-in-Err-clause-capacity : goal.returns-in-Err-clause-capacity
returns-in-Err-clause-capacity c = rw (← c.self.view_is) c.in-Err.ensures.capacity
