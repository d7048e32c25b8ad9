-- Those that were yielded are counted.
use Rattle.link_capture_quirks.specs.CaptureQuirks.{items_left}
use Rattle.linkcap_c.proofs.Quirking.{Counted}
use Rattle.linkcap_c.proofs.quirks.count_quirks.Given as goal

abbrev pub invariant-quirks : goal.invariant-quirks
invariant-quirks l = record {
  can : goal.iterator-quirks.can_next l.left;
  finite : goal.iterator-quirks.is_finite l.left;
  counted : Counted l.limit l.capture (items_left l.left) l.count;
}
