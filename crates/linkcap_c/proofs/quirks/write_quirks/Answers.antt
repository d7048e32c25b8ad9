-- one quirk further
use Rattle.std.proofs.Common.{◌≡◌, ◌+◌, Ok, ◌∷◌, ap, sym, subst, ◌∙◌}
use Rattle.std.specs.Prelude.{slice_set}
use Rattle.link_capture_quirks.specs.CaptureQuirks.{items_left}
use Rattle.linkcap_c.proofs.Quirking.{Written, written_none, written_one}
use Rattle.linkcap_c.proofs.quirks.write_quirks.Goals as goal

pub quirks-init : goal.quirks-init
quirks-init c = record {
  can = tt;
  finite = tt;
  written = written_none c.args.limit c.args.capture.now c.args.out.now c.quirks-left.result c.quirks-left.ensures.quirks_left c.requires;
}

pub quirks-preserved : goal.quirks-preserved
quirks-preserved c =
    let steps : items_left c.quirks.left ≡ Ok c.in-Some-Ok.found ∷ items_left c.next.new.self = c.in-Some-Ok.ensures.steps ∙ ap (λ z. z ∷ items_left c.next.new.self) c.in-Some-Ok.field-0-is in
    record {
      can = tt;
      finite = tt;
      written = subst (λ q. Written c.args.limit c.args.capture.now c.args.out.now (slice_set c.quirks.out c.quirks.written q) (items_left c.next.new.self) (c.quirks.written + 1)) (sym c.of_quirk.ensures)
          (written_one c.args.limit c.args.capture.now c.args.out.now c.quirks.out (items_left c.quirks.left) (items_left c.next.new.self) c.in-Some-Ok.found c.quirks.written c.quirks.invariant.written steps);
    }
