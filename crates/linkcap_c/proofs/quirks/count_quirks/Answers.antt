-- the quirks that are counted, and the fault that follows them
use Rattle.std.proofs.Common.{◌≡◌, Err, ◌∷◌, ap, ◌∙◌}
use Rattle.link_capture_quirks.specs.CaptureQuirks.{items_left}
use Rattle.linkcap_c.proofs.Quirking.{counted_none, counted_fault, counted_all}
use Rattle.linkcap_c.proofs.quirks.count_quirks.Goals as goal

pub quirks-init : goal.quirks-init
quirks-init c = record {
  can = tt;
  finite = tt;
  counted = counted_none c.args.limit c.args.capture.now c.quirks-left.result c.quirks-left.ensures.quirks_left c.quirks-left.ensures.fault;
}

pub returns-in-Some-Err-clause-count : goal.returns-in-Some-Err-clause-count
returns-in-Some-Err-clause-count c =
    let steps : items_left c.quirks.left ≡ Err c.in-Some-Err.fault ∷ items_left c.next.new.self = c.in-Some-Err.ensures.steps ∙ ap (λ z. z ∷ items_left c.next.new.self) c.in-Some-Err.field-0-is in
    (counted_fault c.args.limit c.args.capture.now (items_left c.quirks.left) (items_left c.next.new.self) c.in-Some-Err.fault c.quirks.count c.quirks.invariant.counted steps).0

pub returns-in-None-clause-count : goal.returns-in-None-clause-count
returns-in-None-clause-count c =
    (counted_all c.args.limit c.args.capture.now (items_left c.quirks.left) c.quirks.count c.quirks.invariant.counted c.in-None.ensures.steps.0).0
