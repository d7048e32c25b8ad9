-- Those that were yielded are written.
use Rattle.link_capture_quirks.specs.CaptureQuirks.{items_left}
use Rattle.linkcap_c.proofs.Quirking.{Written}
use Rattle.linkcap_c.proofs.quirks.write_quirks.Given as goal

abbrev pub invariant-quirks : goal.invariant-quirks
invariant-quirks l = record {
  can : goal.iterator-quirks.can_next l.left;
  finite : goal.iterator-quirks.is_finite l.left;
  written : Written l.limit l.capture l.fn.out l.out (items_left l.left) l.written;
}
